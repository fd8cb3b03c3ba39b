-- Standings in order: what `sort_unstable` and `dedup` leave, and that order and members determine a list of items.
use Rattle.std.proofs.Common.{◌≡◌, refl, sym, ap, subst, ◌∙◌, ℕ, ◌<◌, ◌≤◌, Bool, true, false, not, ◌&&◌, ◌||◌, ◌==◌, nat_lt, List, [], ◌∷◌, ◌++◌, cond, length, arith, inl, inr, ◌⊎◌}
use Rattle.std.specs.List.{list_any, list_all, dedup, AllByRecursion}
use Rattle.std.specs.List as words
use Rattle.std.specs.Cmp.{IsTotalOrder}
use Rattle.std.specs.List.Sorted.{IsPermutation, IsSorted, IsStrictlySortedBy}
use Rattle.std.specs.Ordering.{nat_cmp, ordering_then, eq_by_cmp}
use Rattle.std.specs.declared.cmp.Ordering.{Ordering}
use Rattle.std.specs.declared.cmp.Ordering.TheVariants.{Less, Equal, Greater}
use Rattle.std.proofs.lemmas.Bool.{and_parts, and_from, or_cases, or_left, or_right, false≢true, true≢false, ltb-true, lt-ltb, le-ltb, eqb-true, eq-eqb, ne_eqb, cases_order, cases_Bool, false_from_ne_true}
use Rattle.std.proofs.lemmas.List.Sorted.{list_any-IsPermutation}
use Rattle.std.proofs.lemmas.List.Filters.{dedup_is}
use Rattle.std.proofs.lemmas.List.Kept.{IsStrictlySortedBy-dedup}
use Rattle.tp_spec.specs.declared.plan.Item.{Item}
use Rattle.tp_spec.specs.declared.plan.Item.TheVariants.{TimedAt, End, Start}
use Rattle.tp_spec.specs.Lists.{each_pair}
use Rattle.tp_spec.specs.Items.{item_before, kind_index, number}
use Rattle.world_state.specs.Happenings.{same_item}
use Rattle.plan_validator.specs.declared.standings.Place.{Place}
use Rattle.plan_validator.specs.declared.standings.Place.TheVariants.{Fixed, Ending, Starting}
use Rattle.plan_validator.specs.declared.standings.Standing.{Standing}
use Rattle.plan_validator.specs.contracts.standings.StandingOrd.TheImpl as ord
use Rattle.plan_validator.specs.contracts.standings.StandingPartialEq.TheImpl as eq
use Rattle.plan_validator.specs.contracts.standings.PlaceOrd.TheImpl as place
use Rattle.plan_validator.specs.contracts.standings.PlacePartialEq.TheImpl as place_eq
use Rattle.plan_validator.specs.contracts.standings.StandingOrd.TheImpl.Laws.{total-law, matches_eq-law}
use Rattle.plan_validator.specs.Standings.{item_of, standing_before, has_standing, AreInOrder}

-- a member that passes like the one kept before it is not missed
same_or : (a b : Bool) → (a || b) ≡ (a || (a || b))
same_or true b = refl
same_or false b = refl

any-dedup_from : {A : Type 0} (E : A → A → Bool) (test : A → Bool) → ((x y : A) → E x y ≡ true → test x ≡ test y) → (k : A) (xs : List A)
    → list_any test (words.dedup_from E k xs) ≡ (test k || list_any test xs)
any-dedup_from E test same k [] = refl
any-dedup_from {A} E test same k (x ∷ xs) = by_test (any-dedup_from E test same k xs) (any-dedup_from E test same x xs) (E x k) (same x k) where
  by_test : list_any test (words.dedup_from E k xs) ≡ (test k || list_any test xs) → list_any test (words.dedup_from E x xs) ≡ (test x || list_any test xs)
      → (b : Bool) → (b ≡ true → test x ≡ test k) → list_any test (cond b (words.dedup_from E k xs) (k ∷ words.dedup_from E x xs)) ≡ (test k || (test x || list_any test xs))
  by_test kept new true alike = kept ∙ same_or (test k) (list_any test xs) ∙ (λ m. test k || (sym (alike refl) m || list_any test xs))
  by_test kept new false alike = ap (λ b. test k || b) new

pub any-dedup : {A : Type 0} (E : A → A → Bool) (test : A → Bool) → ((x y : A) → E x y ≡ true → test x ≡ test y) → (xs : List A) → list_any test (dedup E xs) ≡ list_any test xs
any-dedup E test same [] = refl
any-dedup E test same (x ∷ xs) = any-dedup_from E test same x xs

same_number : (n : ℕ) → (n == n) ≡ true
same_number n = eq-eqb n n refl

same_symmetric : (m n : ℕ) → (m == n) ≡ true → (n == m) ≡ true
same_symmetric m n h = eq-eqb n m (sym (eqb-true m n h))

pub same_itself : (i : Item) → same_item i i ≡ true
same_itself (TimedAt k) = same_number k
same_itself (End a) = same_number a
same_itself (Start a) = same_number a

pub same_is : (i j : Item) → same_item i j ≡ true → i ≡ j
same_is (TimedAt k) (TimedAt l) h = ap TimedAt (eqb-true k l h)
same_is (TimedAt k) (End b) h = absurd (false≢true h)
same_is (TimedAt k) (Start b) h = absurd (false≢true h)
same_is (End a) (TimedAt l) h = absurd (false≢true h)
same_is (End a) (End b) h = ap End (eqb-true a b h)
same_is (End a) (Start b) h = absurd (false≢true h)
same_is (Start a) (TimedAt l) h = absurd (false≢true h)
same_is (Start a) (End b) h = absurd (false≢true h)
same_is (Start a) (Start b) h = ap Start (eqb-true a b h)

-- no item is before itself, nor before one that is before it
not_below : (m n : ℕ) → nat_lt m n ≡ true → nat_lt n m ≡ true → ⊥
not_below m n h k = let less : m < n = ltb-true m n h in let more : n < m = ltb-true n m k in absurd (omega arith)

pub before_one_way : (i j : Item) → item_before i j ≡ true → item_before j i ≡ true → ⊥
before_one_way (TimedAt k) (TimedAt l) h g = not_below k l h g
before_one_way (TimedAt k) (End b) h g = false≢true g
before_one_way (TimedAt k) (Start b) h g = false≢true g
before_one_way (End a) (TimedAt l) h g = false≢true h
before_one_way (End a) (End b) h g = not_below a b h g
before_one_way (End a) (Start b) h g = false≢true g
before_one_way (Start a) (TimedAt l) h g = false≢true h
before_one_way (Start a) (End b) h g = false≢true h
before_one_way (Start a) (Start b) h g = not_below a b h g

-- whether an item is in a list
abbrev pub has_item : List Item → Item → Bool
has_item xs i = list_any (λ j. same_item j i) xs

-- an item before all of a list is not in it
before_all : (i : Item) (xs : List Item) → list_all (item_before i) xs ≡ true → has_item xs i ≡ true → ⊥
before_all i [] h g = false≢true g
before_all i (x ∷ xs) h g =
    let parts = and_parts (item_before i x) (list_all (item_before i) xs) h in
    elim (or_cases (same_item x i) (has_item xs i) g) [
      | inl here ↦
          let itself : item_before i i ≡ true = subst (λ y. item_before i y ≡ true) (same_is x i here) parts.0 in
          before_one_way i i itself itself
      | inr there ↦ before_all i xs parts.1 there
    ]

-- one of a list behind an item is behind it
one_behind : (i j : Item) (xs : List Item) → list_all (item_before i) xs ≡ true → has_item xs j ≡ true → item_before i j ≡ true
one_behind i j [] h g = absurd (false≢true g)
one_behind i j (x ∷ xs) h g =
    let parts = and_parts (item_before i x) (list_all (item_before i) xs) h in
    elim (or_cases (same_item x j) (has_item xs j) g) [
      | inl here ↦ subst (λ y. item_before i y ≡ true) (same_is x j here) parts.0
      | inr there ↦ one_behind i j xs parts.1 there
    ]

-- of two such lists the first members are one, and what is left has the same members
same_heads : (x y : Item) (xs ys : List Item) → list_all (item_before x) xs ≡ true → list_all (item_before y) ys ≡ true → has_item (y ∷ ys) x ≡ true → has_item (x ∷ xs) y ≡ true → x ≡ y
same_heads x y xs ys h g first other = elim (or_cases (same_item y x) (has_item ys x) first) [
  | inl here ↦ sym (same_is y x here)
  | inr behind ↦ elim (or_cases (same_item x y) (has_item xs y) other) [
    | inl here ↦ same_is x y here
    | inr after ↦ absurd (before_one_way x y (one_behind x y xs h after) (one_behind y x ys g behind))
  ]
]

tails : (x y : Item) (xs ys : List Item) → list_all (item_before x) xs ≡ true → list_all (item_before y) ys ≡ true → x ≡ y → ((i : Item) → has_item (x ∷ xs) i ≡ has_item (y ∷ ys) i)
    → (i : Item) → has_item xs i ≡ has_item ys i
tails x y xs ys h g e same i = either (cases_Bool (same_item x i)) where
  either : ((same_item x i) ≡ true) ⊎ ((same_item x i) ≡ false) → has_item xs i ≡ has_item ys i
  either (inl is) =
      let mine : x ≡ i = same_is x i is in
      let yours : y ≡ i = sym e ∙ mine in
      false_from_ne_true (has_item xs i) (λ there. before_all x xs h (subst (λ j. has_item xs j ≡ true) (sym mine) there))
      ∙ sym (false_from_ne_true (has_item ys i) (λ there. before_all y ys g (subst (λ j. has_item ys j ≡ true) (sym yours) there)))
  either (inr other) =
      (λ k. sym other k || has_item xs i) ∙ same i ∙ (λ k. subst (λ z. same_item z i ≡ false) e other k || has_item ys i)

-- two lists in the item order with the same members are one
pub same_members : (xs ys : List Item) → each_pair item_before xs ≡ true → each_pair item_before ys ≡ true → ((i : Item) → has_item xs i ≡ has_item ys i) → xs ≡ ys
same_members [] [] h g same = refl
same_members [] (y ∷ ys) h g same = absurd (false≢true (same y ∙ ap (λ b. b || has_item ys y) (same_itself y)))
same_members (x ∷ xs) [] h g same = absurd (false≢true (sym (same x) ∙ ap (λ b. b || has_item xs x) (same_itself x)))
same_members (x ∷ xs) (y ∷ ys) h g same =
    let left = and_parts (list_all (item_before x) xs) (each_pair item_before xs) h in
    let right = and_parts (list_all (item_before y) ys) (each_pair item_before ys) g in
    let first_in : has_item (y ∷ ys) x ≡ true = sym (same x) ∙ ap (λ b. b || has_item xs x) (same_itself x) in
    let other_in : has_item (x ∷ xs) y ≡ true = same y ∙ ap (λ b. b || has_item ys y) (same_itself y) in
    let heads = same_heads x y xs ys left.0 right.0 first_in other_in in
    λ k. heads k ∷ same_members xs ys left.1 right.1 (tails x y xs ys left.0 right.0 heads same) k

abbrev pub cmp : Standing → Standing → Ordering
cmp = (ord.cmp-value).it

abbrev pub ties : Standing → Standing → Bool
ties = (eq.eq-value).it

abbrev cmp_place : Place → Place → Ordering
cmp_place = (place.cmp-value).it

abbrev eq_place : Place → Place → Bool
eq_place = (place_eq.eq-value).it

-- what an order of numbers says
less_test : (b c : Bool) → cond b Less (cond c Equal Greater) ≡ Less → b ≡ true
less_test true c h = refl
less_test false true h = cc
less_test false false h = cc

equal_test : (b c : Bool) → cond b Less (cond c Equal Greater) ≡ Equal → c ≡ true
equal_test b true h = refl
equal_test true false h = cc
equal_test false false h = cc

then_less : (o r : Ordering) → ordering_then o r ≡ Less → (o ≡ Less) ⊎ ((o ≡ Equal) × (r ≡ Less))
then_less Less r h = inl refl
then_less Equal r h = inr (refl, h)
then_less Greater r h = cc

place_before : (p q : Place) → cmp_place p q ≡ Less → item_before (item_of p) (item_of q) ≡ true
place_before (Fixed k) (Fixed l) h = less_test (nat_lt k l) (k == l) h
place_before (Fixed k) (Ending b) h = refl
place_before (Fixed k) (Starting b) h = refl
place_before (Ending a) (Fixed l) h = cc
place_before (Ending a) (Ending b) h = less_test (nat_lt a b) (a == b) h
place_before (Ending a) (Starting b) h = refl
place_before (Starting a) (Fixed l) h = cc
place_before (Starting a) (Ending b) h = cc
place_before (Starting a) (Starting b) h = less_test (nat_lt a b) (a == b) h

less_before : (x y : Standing) → cmp x y ≡ Less → standing_before x y ≡ true
less_before x y h = elim (then_less (nat_cmp x.tick y.tick) (cmp_place x.place y.place) h) [
  | inl less ↦ or_left (nat_lt x.tick y.tick) (x.tick == y.tick && item_before (item_of x.place) (item_of y.place)) (less_test (nat_lt x.tick y.tick) (x.tick == y.tick) less)
  | inr same ↦ or_right (nat_lt x.tick y.tick) (x.tick == y.tick && item_before (item_of x.place) (item_of y.place))
      (and_from (x.tick == y.tick) (item_before (item_of x.place) (item_of y.place)) (equal_test (nat_lt x.tick y.tick) (x.tick == y.tick) same.0) (place_before x.place y.place same.1))
]

all_before : (x : Standing) (ys : List Standing) → AllByRecursion (λ y. cmp x y ≡ Less) ys → list_all (standing_before x) ys ≡ true
all_before x [] h = refl
all_before x (y ∷ ys) h = and_from (standing_before x y) (list_all (standing_before x) ys) (less_before x y h.0) (all_before x ys h.1)

pub rising_before : (xs : List Standing) → IsStrictlySortedBy cmp xs → each_pair standing_before xs ≡ true
unfolding IsStrictlySortedBy
rising_before [] h = refl
rising_before (x ∷ xs) h = and_from (list_all (standing_before x) xs) (each_pair standing_before xs) (all_before x xs h.0) (rising_before xs h.1)

place_same : (p q : Place) → eq_place p q ≡ true → item_of p ≡ item_of q
place_same (Fixed k) (Fixed l) h = ap TimedAt (eqb-true k l h)
place_same (Fixed k) (Ending b) h = absurd (false≢true h)
place_same (Fixed k) (Starting b) h = absurd (false≢true h)
place_same (Ending a) (Fixed l) h = absurd (false≢true h)
place_same (Ending a) (Ending b) h = ap End (eqb-true a b h)
place_same (Ending a) (Starting b) h = absurd (false≢true h)
place_same (Starting a) (Fixed l) h = absurd (false≢true h)
place_same (Starting a) (Ending b) h = absurd (false≢true h)
place_same (Starting a) (Starting b) h = ap Start (eqb-true a b h)

alike : (t : ℕ) (i : Item) (x y : Standing) → ties x y ≡ true → (x.tick == t && same_item (item_of x.place) i) ≡ (y.tick == t && same_item (item_of y.place) i)
alike t i x y h =
    let parts = and_parts (x.tick == y.tick) (eq_place x.place y.place) h in
    λ k. eqb-true x.tick y.tick parts.0 k == t && same_item (place_same x.place y.place parts.1 k) i

-- what `sort_unstable` and then `dedup` make of standings
pub in_order : (old sorted new : List Standing) → IsPermutation old sorted → IsSorted cmp sorted → new ≡ dedup ties sorted → AreInOrder old new
in_order old sorted new moved up is = record {
  rising = subst (λ xs. each_pair standing_before xs ≡ true) (sym is) (rising_before (dedup ties sorted) (IsStrictlySortedBy-dedup total-law matches_eq-law sorted up));
  has = λ t i.
      ap (λ xs. has_standing xs t i) is
      ∙ any-dedup ties (λ x. x.tick == t && same_item (item_of x.place) i) (alike t i) sorted
      ∙ sym (list_any-IsPermutation (λ x. x.tick == t && same_item (item_of x.place) i) old sorted moved);
}
