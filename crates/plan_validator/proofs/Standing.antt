-- The standings in order are what stands at each tick.
use Rattle.std.proofs.Common.{◌≡◌, refl, sym, ap, subst, ◌∙◌, ℕ, zero, suc, ◌+◌, ◌<◌, ◌≤◌, Bool, true, false, not, ◌&&◌, ◌||◌, ◌==◌, nat_lt, nat_le, List, [], ◌∷◌, ◌++◌, map, cond, length, arith, inl, inr, ◌⊎◌, IsTrue, Some, None}
use Rattle.std.specs.Prelude.{Option, slice_get}
use Rattle.std.specs.List.{list_any, list_all, filter, range_with_len, AllByRecursion as Each}
use Rattle.std.proofs.lemmas.Bool.{and_parts, and_from, or_cases, or_left, or_right, false≢true, ltb-true, lt-ltb, le-ltb, le-leb, eqb-true, eq-eqb, ne_eqb, lt-leb, cases_lt, cases_order, cases_Bool, false_from_ne_true}
use Rattle.std.proofs.lemmas.Bool.Decides.{nat_tests}
use Rattle.std.proofs.lemmas.List.Folds.{list_any-append, list_all-append, list_all-map}
use Rattle.std.proofs.lemmas.Option.{slice_get_cases}
use Rattle.tp_spec.specs.declared.plan.Item.{Item}
use Rattle.tp_spec.specs.declared.plan.Item.TheVariants.{TimedAt, End, Start}
use Rattle.tp_spec.specs.declared.plan.Timed.{Timed}
use Rattle.tp_spec.specs.declared.problem.Problem.{Problem}
use Rattle.tp_spec.specs.Lists.{each_pair, some_and}
use Rattle.tp_spec.specs.Items.{item_before, all_items, is_durative, is_durative_kind}
use Rattle.tp_spec.specs.Courses.{stands, happening}
use Rattle.tp_laws.proofs.EarlyLists.{Rising, range-rises, true-each}
use Rattle.world_state.specs.Happenings.{same_item, is_item_of}
use Rattle.world_state.proofs.AllItems.{pairs_kept}
use Rattle.plan_validator.specs.declared.standings.Standing.{Standing}
use Rattle.plan_validator.specs.Acts.{is_of}
use Rattle.plan_validator.specs.Standings.{item_of, standing_before, has_standing, items_at, stands_timed, stands_by, AreInOrder, AreStandings}
use Rattle.plan_validator.proofs.Rising.{has_item, same_is, same_itself, same_members}

-- those at one tick are in the item order
before_here : (t : ℕ) (x y : Standing) → (x.tick == t) ≡ true → (y.tick == t) ≡ true → standing_before x y ≡ true → item_before (item_of x.place) (item_of y.place) ≡ true
before_here t x y here there h =
    let e : x.tick ≡ t = eqb-true x.tick t here in
    let f : y.tick ≡ t = eqb-true y.tick t there in
    elim (or_cases (nat_lt x.tick y.tick) (x.tick == y.tick && item_before (item_of x.place) (item_of y.place)) h) [
      | inl less ↦ let below : x.tick < y.tick = ltb-true x.tick y.tick less in absurd (omega arith)
      | inr same ↦ (and_parts (x.tick == y.tick) (item_before (item_of x.place) (item_of y.place)) same).1
    ]

all_here : (t : ℕ) (x : Standing) (ys : List Standing) → (x.tick == t) ≡ true → list_all (standing_before x) ys ≡ true → list_all (item_before (item_of x.place)) (items_at t ys) ≡ true
all_here t x [] here h = refl
all_here t x (y ∷ ys) here h =
    let parts = and_parts (standing_before x y) (list_all (standing_before x) ys) h in
    by_test (y.tick == t) (λ there. before_here t x y here there parts.0) (all_here t x ys here parts.1)
  where
    by_test : (b : Bool) → (b ≡ true → item_before (item_of x.place) (item_of y.place) ≡ true) → list_all (item_before (item_of x.place)) (items_at t ys) ≡ true
        → list_all (item_before (item_of x.place)) (map (λ z. item_of z.place) (cond b (y ∷ filter (λ z. z.tick == t) ys) (filter (λ z. z.tick == t) ys))) ≡ true
    by_test true f rest = and_from (item_before (item_of x.place) (item_of y.place)) (list_all (item_before (item_of x.place)) (items_at t ys)) (f refl) rest
    by_test false f rest = rest

pub items_rise : (t : ℕ) (xs : List Standing) → each_pair standing_before xs ≡ true → each_pair item_before (items_at t xs) ≡ true
items_rise t [] h = refl
items_rise t (x ∷ xs) h =
    let parts = and_parts (list_all (standing_before x) xs) (each_pair standing_before xs) h in
    by_test (x.tick == t) (λ here. all_here t x xs here parts.0) (items_rise t xs parts.1)
  where
    by_test : (b : Bool) → (b ≡ true → list_all (item_before (item_of x.place)) (items_at t xs) ≡ true) → each_pair item_before (items_at t xs) ≡ true
        → each_pair item_before (map (λ z. item_of z.place) (cond b (x ∷ filter (λ z. z.tick == t) xs) (filter (λ z. z.tick == t) xs))) ≡ true
    by_test true f rest = and_from (list_all (item_before (item_of x.place)) (items_at t xs)) (each_pair item_before (items_at t xs)) (f refl) rest
    by_test false f rest = rest

-- an item is among those at a tick where it stands at it
pub here_or_not : (t : ℕ) (i : Item) (xs : List Standing) → has_item (items_at t xs) i ≡ has_standing xs t i
here_or_not t i [] = refl
here_or_not t i (x ∷ xs) = by_test (x.tick == t) (here_or_not t i xs) where
  by_test : (b : Bool) → has_item (items_at t xs) i ≡ has_standing xs t i
      → has_item (map (λ z. item_of z.place) (cond b (x ∷ filter (λ z. z.tick == t) xs) (filter (λ z. z.tick == t) xs))) i ≡ ((b && same_item (item_of x.place) i) || has_standing xs t i)
  by_test true rest = ap (λ b. same_item (item_of x.place) i || b) rest
  by_test false rest = rest

-- all items of a problem are in the item order
pub rising_pairs : {A : Type 0} (lt : A → A → Bool) (xs : List A) → Rising lt xs → each_pair lt xs ≡ true
rising_pairs lt [] h = refl
rising_pairs lt (x ∷ xs) h = and_from (list_all (lt x) xs) (each_pair lt xs) (true-each (lt x) xs h.0) (rising_pairs lt xs h.1)

map_pairs : {A B : Type 0} (lt : B → B → Bool) (f : A → B) (xs : List A) → each_pair (λ x y. lt (f x) (f y)) xs ≡ true → each_pair lt (map f xs) ≡ true
map_pairs lt f [] h = refl
map_pairs lt f (x ∷ xs) h =
    let parts = and_parts (list_all (λ y. lt (f x) (f y)) xs) (each_pair (λ x y. lt (f x) (f y)) xs) h in
    and_from (list_all (lt (f x)) (map f xs)) (each_pair lt (map f xs)) (list_all-map (lt (f x)) f xs ∙ parts.0) (map_pairs lt f xs parts.1)

append_pairs : {A : Type 0} (lt : A → A → Bool) (xs ys : List A) → each_pair lt xs ≡ true → each_pair lt ys ≡ true → list_all (λ x. list_all (lt x) ys) xs ≡ true → each_pair lt (xs ++ ys) ≡ true
append_pairs lt [] ys h g across = g
append_pairs lt (x ∷ xs) ys h g across =
    let parts = and_parts (list_all (lt x) xs) (each_pair lt xs) h in
    let to = and_parts (list_all (lt x) ys) (list_all (λ x. list_all (lt x) ys) xs) across in
    and_from (list_all (lt x) (xs ++ ys)) (each_pair lt (xs ++ ys)) (list_all-append (lt x) xs ys ∙ and_from (list_all (lt x) xs) (list_all (lt x) ys) parts.0 to.0)
    (append_pairs lt xs ys parts.1 g to.1)

each_true : {A : Type 0} (test : A → Bool) → ((x : A) → test x ≡ true) → (xs : List A) → list_all test xs ≡ true
each_true test f [] = refl
each_true test f (x ∷ xs) = and_from (test x) (list_all test xs) (f x) (each_true test f xs)

-- items of one kind before those of a later kind
kinds_apart : (f g : ℕ → Item) → ((x y : ℕ) → item_before (f x) (g y) ≡ true) → (xs ys : List ℕ) → list_all (λ i. list_all (item_before i) (map g ys)) (map f xs) ≡ true
kinds_apart f g before xs ys =
    list_all-map (λ i. list_all (item_before i) (map g ys)) f xs
    ∙ each_true (λ x. list_all (item_before (f x)) (map g ys)) (λ x. list_all-map (item_before (f x)) g ys ∙ each_true (λ y. item_before (f x) (g y)) (before x) ys) xs

pub all_items_rise : (p : Problem) → each_pair item_before (all_items p) ≡ true
all_items_rise p =
    let timed : List ℕ = range_with_len 0 (length p.timed) in
    let acts : List ℕ = range_with_len 0 (length p.actions) in
    append_pairs item_before (map TimedAt timed ++ map End acts) (map Start acts)
    (append_pairs item_before (map TimedAt timed) (map End acts)
    (map_pairs item_before TimedAt timed (rising_pairs nat_lt timed (range-rises 0 (length p.timed))))
    (map_pairs item_before End acts (rising_pairs nat_lt acts (range-rises 0 (length p.actions))))
    (kinds_apart TimedAt End (λ x y. refl) timed acts))
    (map_pairs item_before Start acts (rising_pairs nat_lt acts (range-rises 0 (length p.actions))))
    (list_all-append (λ i. list_all (item_before i) (map Start acts)) (map TimedAt timed) (map End acts)
    ∙ and_from (list_all (λ i. list_all (item_before i) (map Start acts)) (map TimedAt timed)) (list_all (λ i. list_all (item_before i) (map Start acts)) (map End acts))
    (kinds_apart TimedAt Start (λ x y. refl) timed acts) (kinds_apart End Start (λ x y. refl) acts acts))

-- a filter has the members that pass
pub has_filter : (test : Item → Bool) (xs : List Item) (i : Item) → has_item (filter test xs) i ≡ (test i && has_item xs i)
has_filter test [] i = none (test i) where
  none : (b : Bool) → false ≡ (b && false)
  none true = refl
  none false = refl
has_filter test (x ∷ xs) i = by_test (test x) (has_filter test xs i) (λ same. ap test (same_is x i same)) where
  split : (a b c : Bool) → (b ≡ true → true ≡ a) → (b || (a && c)) ≡ (a && (b || c))
  split true true c f = refl
  split true false c f = refl
  split false true c f = absurd (false≢true (sym (f refl)))
  split false false c f = refl

  skip : (a b c : Bool) → (b ≡ true → false ≡ a) → (a && c) ≡ (a && (b || c))
  skip true true c f = absurd (false≢true (f refl))
  skip true false c f = refl
  skip false b c f = refl

  by_test : (b : Bool) → has_item (filter test xs) i ≡ (test i && has_item xs i) → (same_item x i ≡ true → b ≡ test i)
      → has_item (cond b (x ∷ filter test xs) (filter test xs)) i ≡ (test i && (same_item x i || has_item xs i))
  by_test true rest f = ap (λ b. same_item x i || b) rest ∙ split (test i) (same_item x i) (has_item xs i) f
  by_test false rest f = rest ∙ skip (test i) (same_item x i) (has_item xs i) f

-- the numbers of a range, and the items of a problem
range_test : (k a n : ℕ) (b : Bool) → b ≡ (nat_le (a + 1) k && nat_lt k (a + 1 + n)) → ((a == k) || b) ≡ (nat_le a k && nat_lt k (a + suc n))
range_test k a n b e = grind (arith, nat_tests, e)

in_range_or_not : (k a n : ℕ) → list_any (λ j. j == k) (range_with_len a n) ≡ (nat_le a k && nat_lt k (a + n))
in_range_or_not k a zero = empty k a where
  empty : (k a : ℕ) → false ≡ (nat_le a k && nat_lt k (a + 0))
  empty k a = grind (arith, nat_tests)
in_range_or_not k a (suc n) = range_test k a n (list_any (λ j. j == k) (range_with_len (a + 1) n)) (in_range_or_not k (a + 1) n)

below_or_not : (k n : ℕ) → list_any (λ j. j == k) (range_with_len 0 n) ≡ nat_lt k n
below_or_not k n = in_range_or_not k 0 n ∙ plain k n where
  plain : (k n : ℕ) → (nat_le 0 k && nat_lt k (0 + n)) ≡ nat_lt k n
  plain k n = grind (arith, nat_tests)

any_map : {A B : Type 0} (test : B → Bool) (f : A → B) (xs : List A) → list_any test (map f xs) ≡ list_any (λ x. test (f x)) xs
any_map test f [] = refl
any_map test f (x ∷ xs) = ap (λ b. test (f x) || b) (any_map test f xs)

none_pass : {A : Type 0} (xs : List A) → list_any (λ x. false) xs ≡ false
none_pass [] = refl
none_pass (x ∷ xs) = none_pass xs

pub all_items_has : (p : Problem) (i : Item) → has_item (all_items p) i ≡ is_item_of p i
all_items_has p i = split ∙ (λ m. (any_map (λ j. same_item j i) TimedAt timed m || any_map (λ j. same_item j i) End acts m) || any_map (λ j. same_item j i) Start acts m) ∙ by_kind i where
  timed : List ℕ
  timed = range_with_len 0 (length p.timed)

  acts : List ℕ
  acts = range_with_len 0 (length p.actions)

  split : has_item (all_items p) i ≡ ((has_item (map TimedAt timed) i || has_item (map End acts) i) || has_item (map Start acts) i)
  split =
      list_any-append (λ j. same_item j i) (map TimedAt timed ++ map End acts) (map Start acts)
      ∙ ap (λ b. b || has_item (map Start acts) i) (list_any-append (λ j. same_item j i) (map TimedAt timed) (map End acts))

  first_one : (b : Bool) → ((b || false) || false) ≡ b
  first_one true = refl
  first_one false = refl

  second_one : (b : Bool) → ((false || b) || false) ≡ b
  second_one true = refl
  second_one false = refl

  by_kind : (i : Item) → ((list_any (λ k. same_item (TimedAt k) i) timed || list_any (λ a. same_item (End a) i) acts) || list_any (λ a. same_item (Start a) i) acts) ≡ is_item_of p i
  by_kind (TimedAt k) = (λ m. (below_or_not k (length p.timed) m || none_pass acts m) || none_pass acts m) ∙ first_one (nat_lt k (length p.timed))
  by_kind (End a) = (λ m. (none_pass timed m || below_or_not a (length p.actions) m) || none_pass acts m) ∙ second_one (nat_lt a (length p.actions))
  by_kind (Start a) = λ m. (none_pass timed m || none_pass acts m) || below_or_not a (length p.actions) m

-- what stands is of the problem
some_below : {A : Type 0} (xs : List A) (k : ℕ) (test : A → Bool) → some_and (slice_get xs k) test ≡ true → nat_lt k (length xs) ≡ true
some_below [] k test h = absurd (false≢true h)
some_below (x ∷ xs) zero test h = lt-ltb 0 (length (x ∷ xs)) (omega arith)
some_below (x ∷ xs) (suc k) test h =
    let rest : k < length xs = ltb-true k (length xs) (some_below xs k test h) in
    lt-ltb (suc k) (length (x ∷ xs)) (omega arith)

some_act_below : (n a : ℕ) (test : Timed → Bool) (acts : List Timed) → list_all (is_of n) acts ≡ true → list_any (λ x. x.action == a && test x) acts ≡ true → nat_lt a n ≡ true
some_act_below n a test [] inside h = absurd (false≢true h)
some_act_below n a test (x ∷ xs) inside h =
    let parts = and_parts (is_of n x) (list_all (is_of n) xs) inside in
    elim (or_cases (x.action == a && test x) (list_any (λ x. x.action == a && test x) xs) h) [
      | inl here ↦ subst (λ b. nat_lt b n ≡ true) (eqb-true x.action a (and_parts (x.action == a) (test x) here).0) parts.0
      | inr there ↦ some_act_below n a test xs parts.1 there
    ]

pub stands_inside : (p : Problem) (acts : List Timed) → list_all (is_of (length p.actions)) acts ≡ true → (t : ℕ) (i : Item) → stands p acts t i ≡ true → is_item_of p i ≡ true
stands_inside p acts inside t (TimedAt k) h = some_below p.timed k (λ x. x.tick == t) h
stands_inside p acts inside t (End a) h = some_below p.actions a (λ x. is_durative_kind x.kind) (and_parts (is_durative p a) (list_any (λ x. x.action == a && x.start + x.length == t) acts) h).0
stands_inside p acts inside t (Start a) h = some_act_below (length p.actions) a (λ x. x.start == t) acts inside h

with_itself : (a b : Bool) → (a ≡ true → b ≡ true) → (a && b) ≡ a
with_itself true b f = f refl
with_itself false b f = refl

-- an item is in a happening where it stands
pub happening_has : (p : Problem) (acts : List Timed) → list_all (is_of (length p.actions)) acts ≡ true → (t : ℕ) (i : Item) → has_item (happening p acts t) i ≡ stands p acts t i
happening_has p acts inside t i =
    has_filter (stands p acts t) (all_items p) i
    ∙ ap (λ b. stands p acts t i && b) (all_items_has p i)
    ∙ with_itself (stands p acts t i) (is_item_of p i) (stands_inside p acts inside t i)

both_kinds : (p : Problem) (acts : List Timed) (t : ℕ) (i : Item) → (stands_timed p (length p.timed) t i || stands_by p acts t i) ≡ stands p acts t i
both_kinds p acts t (TimedAt k) = by_place (nat_lt k (length p.timed)) (some_and (slice_get p.timed k) (λ x. x.tick == t)) (some_below p.timed k (λ x. x.tick == t)) where
  by_place : (a b : Bool) → (b ≡ true → a ≡ true) → ((a && b) || false) ≡ b
  by_place true true f = refl
  by_place true false f = refl
  by_place false true f = absurd (false≢true (f refl))
  by_place false false f = refl
both_kinds p acts t (End a) = refl
both_kinds p acts t (Start a) = refl

late_all : (xs : List Standing) → list_all (λ x. nat_le 0 x.tick) xs ≡ true
late_all [] = refl
late_all (x ∷ xs) = and_from (nat_le 0 x.tick) (list_all (λ x. nat_le 0 x.tick) xs) (le-leb 0 x.tick (omega arith)) (late_all xs)

-- all that was added, in order, is all that stands
pub standings_are : (p : Problem) (acts : List Timed) → list_all (is_of (length p.actions)) acts ≡ true → (old new : List Standing)
    → ((t : ℕ) (i : Item) → has_standing old t i ≡ (stands_timed p (length p.timed) t i || stands_by p acts t i)) → AreInOrder old new → AreStandings p acts 0 new
standings_are p acts inside old new added order = record {
  rising = order.rising;
  late = late_all new;
  are = λ u late. same_members (items_at u new) (happening p acts u) (items_rise u new order.rising) (pairs_kept item_before (stands p acts u) (all_items p) (all_items_rise p))
      (λ i. here_or_not u i new ∙ order.has u i ∙ added u i ∙ both_kinds p acts u i ∙ sym (happening_has p acts inside u i));
}
