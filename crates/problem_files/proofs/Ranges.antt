-- Lists of numbers by a test; sets of numbers; ranges of lengths; values at the start.
use Rattle.std.proofs.Common.{◌≡◌, ℕ, ℤ, ◌+◌, ◌<◌, ◌≤◌, ◌≢◌, ◌⊎◌, inl, inr, ltb, leb, eqb, Bool, true, false, not, ◌||◌, cond, List, [], ◌∷◌, length, Option, Some, None, refl, ap, sym, ◌∙◌, subst, arith}
use Rattle.std.specs.Prelude.{nat_lt, ◌==◌}
use Rattle.std.specs.declared.cmp.Ordering.{Ordering}
use Rattle.std.specs.declared.cmp.Ordering.TheVariants.{Equal, Greater}
use Rattle.std.specs.List.{list_all, list_any}
use Rattle.std.specs.Ordering.{nat_cmp, is_lt}
use Rattle.std.specs.Str.{bytes_eq}
use Rattle.std.specs.BTreeSet.{insert_key}
use Rattle.std.proofs.lemmas.Bool.{and_parts, and_from, lt-ltb, ltb-true, ne_eqb}
use Rattle.std.proofs.lemmas.Bool.Decides.{eqb_tells, leb_tells}
use Rattle.std.proofs.Math.Nat.{le_trans, le_refl, lt_irrefl, le-max_left, min-le_left}
use Rattle.std.specs.Cmp.{nat_cmp_is}
use Rattle.std.proofs.lemmas.Cmp.{nat_cmp_total}
use Rattle.tp_spec.specs.Lists.{is_empty, each_pair, each_next}
use Rattle.tp_spec.specs.WellFormed.{is_i64, is_value}
use Rattle.pddl_domain.specs.declared.domain.Bound.{Bound}
use Rattle.pddl_domain.specs.declared.domain.Bound.TheVariants.{Least, Most}
use Rattle.pddl_problem.specs.declared.task.Given.{Given}
use Rattle.grounder.specs.Sources.{Source, call_name}
use Rattle.grounder.specs.Objects.{numbers_where}
use Rattle.grounder.specs.Starts.{given_among, or_else, worth}
use Rattle.grounder.specs.Lengths.{raised, lowered, ticks, least_from, most_from}
use Rattle.grounder.specs.Grounded.{with_numbers}
use Rattle.grounder.proofs.Rising.{rises_insert, next_of_pair}
use Rattle.problem_files.proofs.Tests.{each_both}

-- ---- the numbers of members that pass a test

where_from : {A : Type 0} (test : A → Bool) (m n : ℕ) (xs : List A) → m < n → list_all (λ k. nat_lt m k) (numbers_where test n xs) ≡ true
where_from test m n [] h = refl
where_from test m n (x ∷ xs) h =
    let rest = where_from test m (n + 1) xs (omega (arith, h)) in
    elim (test x) as (λ b. list_all (λ k. nat_lt m k) (cond b (n ∷ numbers_where test (n + 1) xs) (numbers_where test (n + 1) xs)) ≡ true) [
      | true ↦ and_from _ _ (lt-ltb m n h) rest
      | false ↦ rest
    ]

where_pairs : {A : Type 0} (test : A → Bool) (n : ℕ) (xs : List A) → each_pair nat_lt (numbers_where test n xs) ≡ true
where_pairs test n [] = refl
where_pairs test n (x ∷ xs) =
    let rest = where_pairs test (n + 1) xs in
    elim (test x) as (λ b. each_pair nat_lt (cond b (n ∷ numbers_where test (n + 1) xs) (numbers_where test (n + 1) xs)) ≡ true) [
      | true ↦ and_from _ _ (where_from test n (n + 1) xs (omega arith)) rest
      | false ↦ rest
    ]

pub where_rises : {A : Type 0} (test : A → Bool) (xs : List A) → each_next nat_lt (numbers_where test 0 xs) ≡ true
where_rises test xs = next_of_pair nat_lt (numbers_where test 0 xs) (where_pairs test 0 xs)

where_to : {A : Type 0} (test : A → Bool) (n m : ℕ) (xs : List A) → n + length xs ≡ m → list_all (λ k. nat_lt k m) (numbers_where test n xs) ≡ true
where_to test n m [] h = refl
where_to test n m (x ∷ xs) h =
    let inside : n < m = omega (arith, h) in
    let rest = where_to test (n + 1) m xs (omega (arith, h)) in
    elim (test x) as (λ b. list_all (λ k. nat_lt k m) (cond b (n ∷ numbers_where test (n + 1) xs) (numbers_where test (n + 1) xs)) ≡ true) [
      | true ↦ and_from _ _ (lt-ltb n m inside) rest
      | false ↦ rest
    ]

pub where_below : {A : Type 0} (test : A → Bool) (xs : List A) → list_all (λ k. nat_lt k (length xs)) (numbers_where test 0 xs) ≡ true
where_below test xs = where_to test 0 (length xs) xs (omega arith)

-- a member that passes is counted
some_step : {A : Type 0} (test : A → Bool) (n : ℕ) (xs : List A) (b : Bool) → (b || list_any test xs) ≡ true → (list_any test xs ≡ true → is_empty (numbers_where test (n + 1) xs) ≡ false) → is_empty (cond b (n ∷ numbers_where test (n + 1) xs) (numbers_where test (n + 1) xs)) ≡ false
some_step test n xs true h later = refl
some_step test n xs false h later = later h

pub where_some : {A : Type 0} (test : A → Bool) (n : ℕ) (xs : List A) → list_any test xs ≡ true → is_empty (numbers_where test n xs) ≡ false
where_some test n [] h = absurd (cc)
where_some test n (x ∷ xs) h = some_step test n xs (test x) h (where_some test (n + 1) xs)

-- two tests of which no member passes both
unlike : (a b : ℕ) → a < b → ((a == b) ≡ false) × ((b == a) ≡ false)
unlike a b h = (ne_eqb a b (λ e. lt_irrefl b (subst (λ x. x < b) e h)), ne_eqb b a (λ e. lt_irrefl b (subst (λ x. x < b) (sym e) h)))

above_none : (n : ℕ) (ks : List ℕ) → list_all (λ k. nat_lt n k) ks ≡ true → not (list_any (λ y. n == y) ks) ≡ true
above_none n [] h = refl
above_none n (k ∷ ks) h =
    let w = and_parts (nat_lt n k) (list_all (λ j. nat_lt n j) ks) h in
    ap (λ b. not (b || list_any (λ y. n == y) ks)) (unlike n k (ltb-true n k w.0)).0 ∙ above_none n ks w.1

not_first : (k n : ℕ) (b : Bool) → nat_lt n k ≡ true → not b ≡ true → not ((k == n) || b) ≡ true
not_first k n b h g = ap (λ t. not (t || b)) (unlike n k (ltb-true n k h)).1 ∙ g

apart_step : (n : ℕ) (ks js : List ℕ) (a b : Bool) → (a ≡ true → b ≡ false) → list_all (λ k. nat_lt n k) ks ≡ true → list_all (λ k. nat_lt n k) js ≡ true → list_all (λ x. not (list_any (λ y. x == y) js)) ks ≡ true → list_all (λ x. not (list_any (λ y. x == y) (cond b (n ∷ js) js))) (cond a (n ∷ ks) ks) ≡ true
apart_step n ks js true true h up over rest = absurd (let e = h refl in cc)
apart_step n ks js true false h up over rest = and_from _ _ (above_none n js over) rest
apart_step n ks js false true h up over rest =
    each_both (λ k. nat_lt n k) (λ x. not (list_any (λ y. x == y) js)) (λ x. not (list_any (λ y. x == y) (n ∷ js)))
    (λ k above none. not_first k n (list_any (λ y. k == y) js) above none) ks up rest
apart_step n ks js false false h up over rest = rest

pub where_apart : {A : Type 0} (t u : A → Bool) → ((x : A) → t x ≡ true → u x ≡ false) → (n : ℕ) (xs : List A) → list_all (λ x. not (list_any (λ y. x == y) (numbers_where u n xs))) (numbers_where t n xs) ≡ true
where_apart t u h n [] = refl
where_apart t u h n (x ∷ xs) =
    apart_step n (numbers_where t (n + 1) xs) (numbers_where u (n + 1) xs) (t x) (u x) (h x)
    (where_from t n (n + 1) xs (omega arith)) (where_from u n (n + 1) xs (omega arith)) (where_apart t u h (n + 1) xs)

-- ---- sets of numbers

not_equal : (o : Ordering) → is_lt o ≡ true → o ≡ Equal → ⊥
not_equal o h e = absurd (let f = ap is_lt e in cc)

not_greater : (o : Ordering) → is_lt o ≡ true → o ≡ Greater → ⊥
not_greater o h e = absurd (let f = ap is_lt e in cc)

least_at : (a b : ℕ) (o : Ordering) → is_lt o ≡ true → (ltb b a ≡ true → o ≡ Greater) → (a ≡ b → o ≡ Equal) → b ≤ a → ((eqb a b ≡ true) × (a ≡ b)) ⊎ ((eqb a b ≡ false) × (a ≢ b)) → nat_lt a b ≡ true
least_at a b o h g q le (inl w) = absurd (not_equal o h (q w.1))
least_at a b o h g q le (inr w) = absurd (not_greater o h (g (lt-ltb b a (omega (arith, le, w.1)))))

less_at : (a b : ℕ) (o : Ordering) → is_lt o ≡ true → o ≡ nat_cmp a b → (ltb b a ≡ true → o ≡ Greater) → (a ≡ b → o ≡ Equal) → ((leb b a ≡ true) × (b ≤ a)) ⊎ ((leb b a ≡ false) × (a < b)) → nat_lt a b ≡ true
less_at a b o h e g q (inr w) = lt-ltb a b w.1
less_at a b o h e g q (inl w) = least_at a b o h g q w.1 (eqb_tells a b)

pub less_than : (a b : ℕ) → is_lt (nat_cmp a b) ≡ true → nat_lt a b ≡ true
less_than a b h =
    less_at a b (nat_cmp a b) h refl (λ g. sym (nat_cmp_is a b Greater (ltb-true b a g))) (λ e. sym (nat_cmp_is a b Equal e)) (leb_tells b a)

pub ticks_rise : (sorted ns : List ℕ) → each_pair (λ a b. is_lt (nat_cmp a b)) sorted ≡ true → each_pair (λ a b. is_lt (nat_cmp a b)) (with_numbers sorted ns) ≡ true
ticks_rise sorted [] h = h
ticks_rise sorted (n ∷ ns) h = ticks_rise (insert_key nat_cmp sorted n) ns (rises_insert nat_cmp nat_cmp_total sorted n h)

-- ---- lengths

raised_keeps : (n : ℕ) (o : Option ℤ) → 1 ≤ n → 1 ≤ raised n o
raised_keeps n None h = h
raised_keeps n (Some z) h = le_trans h (le-max_left n (ticks z))

pub least_is : (s : Source) (objects : List ℕ) (n : ℕ) (bounds : List Bound) → 1 ≤ n → 1 ≤ least_from s objects n bounds
least_is s objects n [] h = h
least_is s objects n (Least v ∷ rest) h = least_is s objects (raised n (worth s objects v)) rest (raised_keeps n (worth s objects v) h)
least_is s objects n (Most v ∷ rest) h = least_is s objects n rest h

lowered_keeps : (n : ℕ) (o : Option ℤ) → lowered n o ≤ n
lowered_keeps n None = le_refl n
lowered_keeps n (Some z) = min-le_left n (ticks z)

pub most_is : (s : Source) (objects : List ℕ) (n : ℕ) (bounds : List Bound) → most_from s objects n bounds ≤ n
most_is s objects n [] = le_refl n
most_is s objects n (Least v ∷ rest) = most_is s objects n rest
most_is s objects n (Most v ∷ rest) = le_trans (most_is s objects (lowered n (worth s objects v)) rest) (lowered_keeps n (worth s objects v))

-- ---- values at the start

or_value : (o p : Option ℤ) → is_value o ≡ true → is_value p ≡ true → is_value (or_else o p) ≡ true
or_value None p h g = g
or_value (Some z) p h g = h

chosen_value : (b : Bool) (z : ℤ) → is_i64 z ≡ true → is_value (cond b (Some z) None) ≡ true
chosen_value true z h = h
chosen_value false z h = refl

pub given_fits : (s : Source) (name : List ℕ) (gs : List Given) → list_all (λ g. is_i64 g.value) gs ≡ true → is_value (given_among s name gs) ≡ true
given_fits s name [] h = refl
given_fits s name (g ∷ rest) h =
    let w = and_parts (is_i64 g.value) (list_all (λ k. is_i64 k.value) rest) h in
    or_value (given_among s name rest) (cond (bytes_eq (call_name s [] g.target) name) (Some g.value) None)
    (given_fits s name rest w.1) (chosen_value (bytes_eq (call_name s [] g.target) name) g.value w.0)
