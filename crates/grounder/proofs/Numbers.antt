-- Lists of numbers by a test, as they grow; types that are met on the way up.
use Rattle.std.proofs.Common.{◌≡◌, ℕ, zero, suc, ◌+◌, ◌-◌, ◌<◌, Bool, true, false, cond, List, [], ◌∷◌, ◌++◌, length, get_or, take, ap, sym, ◌∙◌, arith, eqb, ◌||◌}
use Rattle.std.proofs.lemmas.List.{take_more, length-take-le}
use Rattle.grounder.specs.Sources.{Source}
use Rattle.grounder.specs.Objects.{numbers_where, climbs, parent_of}

pub where_append : {A : Type 0} (test : A → Bool) (n : ℕ) (xs ys : List A) → numbers_where test n (xs ++ ys) ≡ numbers_where test n xs ++ numbers_where test (n + length xs) ys
where_append test n [] ys = ap (λ k. numbers_where test k ys) (omega arith)
where_append test n (x ∷ xs) ys =
    let moved : (n + 1) + length xs ≡ n + length (x ∷ xs) = omega arith in
    let rest = where_append test (n + 1) xs ys ∙ ap (λ k. numbers_where test (n + 1) xs ++ numbers_where test k ys) moved in
    elim (test x) as (λ b. cond b (n ∷ numbers_where test (n + 1) (xs ++ ys)) (numbers_where test (n + 1) (xs ++ ys)) ≡ cond b (n ∷ numbers_where test (n + 1) xs) (numbers_where test (n + 1) xs) ++ numbers_where test (n + length (x ∷ xs)) ys) [ true ↦ ap (λ l. n ∷ l) rest | false ↦ rest ]

-- one more member at the end of a front
pub where_more : {A : Type 0} (test : A → Bool) (xs : List A) (i : ℕ) (d : A) → i < length xs → numbers_where test 0 (take (i + 1) xs) ≡ numbers_where test 0 (take i xs) ++ cond (test (get_or xs i d)) (i ∷ []) []
where_more test xs i d h =
    let long : length (take i xs) ≡ i = length-take-le i xs (omega arith) in
    let place : 0 + length (take i xs) ≡ i = omega (arith, long) in
    ap (numbers_where test 0) (take_more xs i d h)
    ∙ where_append test 0 (take i xs) (get_or xs i d ∷ [])
    ∙ ap (λ k. numbers_where test 0 (take i xs) ++ cond (test (get_or xs i d)) (k ∷ []) []) place

-- at a type that is its own parent no more steps help
pub climbs_no_more : (s : Source) (target steps sort : ℕ) → parent_of s sort ≡ sort → eqb sort target ≡ false → climbs s target steps sort ≡ false
climbs_no_more s target zero sort same other = other
climbs_no_more s target (suc n) sort same other =
    ap (λ b. b || climbs s target n (parent_of s sort)) other ∙ ap (λ k. climbs s target n k) same ∙ climbs_no_more s target n sort same other

-- a step up, where there is one more
pub climbs_step : (s : Source) (target steps sort : ℕ) → 0 < steps → eqb sort target ≡ false → climbs s target steps sort ≡ climbs s target (steps - 1) (parent_of s sort)
climbs_step s target zero sort more other = absurd (omega arith)
climbs_step s target (suc n) sort more other =
    let less : n ≡ suc n - 1 = omega arith in
    ap (λ b. b || climbs s target n (parent_of s sort)) other ∙ ap (λ k. climbs s target k (parent_of s sort)) less

-- a loop's step: the member at i goes by its test
pub where_step : {A : Type 0} (test : A → Bool) (xs : List A) (i : ℕ) (x : A) (b : Bool) (old new : List ℕ) → i < length xs → x ≡ get_or xs i x → b ≡ test x → old ≡ numbers_where test 0 (take i xs) → new ≡ old ++ cond b (i ∷ []) [] → new ≡ numbers_where test 0 (take (i + 1) xs)
where_step test xs i x b old new inside here same before after =
    after
    ∙ ap (λ l. l ++ cond b (i ∷ []) []) before
    ∙ ap (λ t. numbers_where test 0 (take i xs) ++ cond t (i ∷ []) []) (same ∙ ap test here)
    ∙ sym (where_more test xs i x inside)
