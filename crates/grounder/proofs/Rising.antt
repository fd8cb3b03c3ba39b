-- Lists that rise strictly by a total order, and how one more member comes in.
use Rattle.std.proofs.Common.{◌≡◌, ℕ, zero, suc, ◌+◌, ◌<◌, Bool, true, false, ◌&&◌, ◌||◌, cond, List, [], ◌∷◌, ◌++◌, length, get_or, take, drop, refl, ap, sym, ◌∙◌, subst}
use Rattle.std.specs.declared.cmp.Ordering.{Ordering}
use Rattle.std.specs.declared.cmp.Ordering.TheVariants.{Less, Equal, Greater}
use Rattle.std.specs.List.{list_all, list_any}
use Rattle.std.specs.Ordering.{nat_cmp, is_lt, is_eq, match_ordering, ordering_reverse}
use Rattle.std.specs.Cmp.{IsTotalOrder}
use Rattle.std.specs.Cmp.Lexicographic.{slice_cmp}
use Rattle.std.specs.Str.{bytes_eq}
use Rattle.std.specs.BTreeSet.{insert_key}
use Rattle.std.proofs.lemmas.Cmp.{nat_list_cmp_total}
use Rattle.std.proofs.lemmas.Map.Text.{is_eq-slice_cmp}
use Rattle.std.proofs.lemmas.List.{take_more}
use Rattle.std.proofs.Math.Seq.{drop-cons}
use Rattle.tp_spec.specs.Lists.{each_pair, each_next}
use Rattle.tp_spec.specs.WellFormed.{name_before}
use Rattle.pddl_parts.specs.Names.{with_name}
use Rattle.grounder.specs.Naming.{with_names}

pub and_left : (a b : Bool) → (a && b) ≡ true → a ≡ true
and_left true b h = refl
and_left false b h = h

pub and_right : (a b : Bool) → (a && b) ≡ true → b ≡ true
and_right true b h = h
and_right false b h = absurd (cc)

pub and_both : (a b : Bool) → a ≡ true → b ≡ true → (a && b) ≡ true
and_both a b p q = ap (λ t. t && b) p ∙ q

is_less : (o : Ordering) → is_lt o ≡ true → o ≡ Less
is_less Less h = refl
is_less Equal h = absurd (cc)
is_less Greater h = absurd (cc)

all_insert : {K : Type 0} (p : K → Bool) (R : K → K → Ordering) (ks : List K) (k : K) → p k ≡ true → list_all p ks ≡ true → list_all p (insert_key R ks k) ≡ true
all_insert p R [] k h a = and_both (p k) true h refl
all_insert p R (x ∷ xs) k h a =
    elim (R k x) as (λ o. list_all p (match_ordering o (k ∷ x ∷ xs) (x ∷ xs) (x ∷ insert_key R xs k)) ≡ true) [
      | Less ↦ and_both (p k) (list_all p (x ∷ xs)) h a
      | Equal ↦ a
      | Greater ↦ and_both (p x) (list_all p (insert_key R xs k)) (and_left (p x) (list_all p xs) a) (all_insert p R xs k h (and_right (p x) (list_all p xs) a))
    ]

all_beyond : {K : Type 0} (R : K → K → Ordering) (o : IsTotalOrder R) (a b : K) (ks : List K) → R a b ≡ Less → list_all (λ y. is_lt (R b y)) ks ≡ true → list_all (λ y. is_lt (R a y)) ks ≡ true
all_beyond R o a b [] e h = refl
all_beyond R o a b (x ∷ xs) e h =
    and_both (is_lt (R a x)) (list_all (λ y. is_lt (R a y)) xs)
    (ap is_lt (o.trans a b x e (is_less (R b x) (and_left (is_lt (R b x)) (list_all (λ y. is_lt (R b y)) xs) h))))
    (all_beyond R o a b xs e (and_right (is_lt (R b x)) (list_all (λ y. is_lt (R b y)) xs) h))

rises_at : {K : Type 0} (R : K → K → Ordering) (o : IsTotalOrder R) (x : K) (xs : List K) (k : K) → each_pair (λ a b. is_lt (R a b)) (x ∷ xs) ≡ true → each_pair (λ a b. is_lt (R a b)) (insert_key R xs k) ≡ true → (r : Ordering) → R k x ≡ r → each_pair (λ a b. is_lt (R a b)) (match_ordering r (k ∷ x ∷ xs) (x ∷ xs) (x ∷ insert_key R xs k)) ≡ true
rises_at R o x xs k h later Less e =
    let after = and_left (list_all (λ y. is_lt (R x y)) xs) (each_pair (λ a b. is_lt (R a b)) xs) h in
    and_both (is_lt (R k x) && list_all (λ y. is_lt (R k y)) xs) (each_pair (λ a b. is_lt (R a b)) (x ∷ xs))
    (and_both (is_lt (R k x)) (list_all (λ y. is_lt (R k y)) xs) (ap is_lt e) (all_beyond R o k x xs e after))
    h
rises_at R o x xs k h later Equal e = h
rises_at R o x xs k h later Greater e =
    and_both (list_all (λ y. is_lt (R x y)) (insert_key R xs k)) (each_pair (λ a b. is_lt (R a b)) (insert_key R xs k))
    (all_insert (λ y. is_lt (R x y)) R xs k (ap is_lt (o.antisymm x k ∙ ap ordering_reverse e)) (and_left (list_all (λ y. is_lt (R x y)) xs) (each_pair (λ a b. is_lt (R a b)) xs) h))
    later

-- a list that rises still does with one more member in its place
pub rises_insert : {K : Type 0} (R : K → K → Ordering) (o : IsTotalOrder R) (ks : List K) (k : K) → each_pair (λ a b. is_lt (R a b)) ks ≡ true → each_pair (λ a b. is_lt (R a b)) (insert_key R ks k) ≡ true
rises_insert R o [] k h = refl
rises_insert R o (x ∷ xs) k h = rises_at R o x xs k h (rises_insert R o xs k (and_right (list_all (λ y. is_lt (R x y)) xs) (each_pair (λ a b. is_lt (R a b)) xs) h)) (R k x) refl

-- names that are put in one after another rise
pub names_rise : (sorted names : List (List ℕ)) → each_pair name_before sorted ≡ true → each_pair name_before (with_names sorted names) ≡ true
names_rise sorted [] h = h
names_rise sorted (n ∷ ns) h = names_rise (insert_key (slice_cmp nat_cmp) sorted n) ns (rises_insert (slice_cmp nat_cmp) nat_list_cmp_total sorted n h)

all_at : {A : Type 0} (p : A → Bool) (xs : List A) (x : A) (rest : List A) → list_all p (xs ++ x ∷ rest) ≡ true → p x ≡ true
all_at p [] x rest h = and_left (p x) (list_all p rest) h
all_at p (y ∷ ys) x rest h = all_at p ys x rest (and_right (p y) (list_all p (ys ++ x ∷ rest)) h)

differs : (x y : List ℕ) → is_lt (slice_cmp nat_cmp y x) ≡ true → bytes_eq x y ≡ false
differs x y h = sym (is_eq-slice_cmp x y) ∙ ap is_eq (nat_list_cmp_total.antisymm x y ∙ ap ordering_reverse (is_less (slice_cmp nat_cmp y x) h))

-- a name is none of those before it
pub is_new_behind : (front : List (List ℕ)) (x : List ℕ) (rest : List (List ℕ)) → each_pair name_before (front ++ x ∷ rest) ≡ true → list_any (bytes_eq x) front ≡ false
is_new_behind [] x rest h = refl
is_new_behind (y ∷ ys) x rest h =
    ap (λ b. b || list_any (bytes_eq x) ys) (differs x y (all_at (name_before y) ys x rest (and_left (list_all (name_before y) (ys ++ x ∷ rest)) (each_pair name_before (ys ++ x ∷ rest)) h)))
    ∙ is_new_behind ys x rest (and_right (list_all (name_before y) (ys ++ x ∷ rest)) (each_pair name_before (ys ++ x ∷ rest)) h)

take_drop : {A : Type 0} (i : ℕ) (xs : List A) → take i xs ++ drop i xs ≡ xs
take_drop zero xs = refl
take_drop (suc i) [] = refl
take_drop (suc i) (x ∷ xs) = ap (λ l. x ∷ l) (take_drop i xs)

-- a loop's step: the next name is new, and goes behind the others
pub number_step : (names : List (List ℕ)) (i : ℕ) (x : List ℕ) → each_pair name_before names ≡ true → i < length names → x ≡ get_or names i x → with_name (take i names) x ≡ take (i + 1) names
number_step names i x h inside here =
    let shape : take i names ++ get_or names i x ∷ drop (suc i) names ≡ names = ap (λ l. take i names ++ l) (sym (drop-cons names i x inside)) ∙ take_drop i names in
    let shaped : take i names ++ x ∷ drop (suc i) names ≡ names = ap (λ y. take i names ++ y ∷ drop (suc i) names) here ∙ shape in
    let P : List (List ℕ) → Type 0 = λ l. each_pair name_before l ≡ true in
    let fresh : list_any (bytes_eq x) (take i names) ≡ false = is_new_behind (take i names) x (drop (suc i) names) (subst P (sym shaped) h) in
    ap (λ b. cond b (take i names) (take i names ++ x ∷ [])) fresh
    ∙ ap (λ y. take i names ++ y ∷ []) here
    ∙ sym (take_more names i x inside)

pub next_of_pair : {A : Type 0} (related : A → A → Bool) (xs : List A) → each_pair related xs ≡ true → each_next related xs ≡ true
next_of_pair related [] h = refl
next_of_pair related (x ∷ []) h = refl
next_of_pair related (x ∷ y ∷ xs) h =
    and_both (related x y) (each_next related (y ∷ xs))
    (and_left (related x y) (list_all (related x) xs) (and_left (list_all (related x) (y ∷ xs)) (each_pair related (y ∷ xs)) h))
    (next_of_pair related (y ∷ xs) (and_right (list_all (related x) (y ∷ xs)) (each_pair related (y ∷ xs)) h))
