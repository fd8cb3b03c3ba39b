-- Tests of pairs and of firsts, member by member.
use Rattle.std.proofs.Common.{◌≡◌, refl, sym, ap, subst, ◌∙◌, ℕ, Bool, true, false, not, ◌&&◌, List, [], ◌∷◌, ◌++◌, Option, Some, None, cond}
use Rattle.std.specs.List.{list_all, find}
use Rattle.std.proofs.lemmas.Bool.{and_parts, and_from, not-false, false≢true}
use Rattle.std.proofs.lemmas.List.Folds.{list_all-append}
use Rattle.tp_spec.specs.Lists.{each_pair}

regroup : (a b c d : Bool) → ((a && (b && true)) && (c && d)) ≡ ((a && c) && (b && d))
regroup false b c d = refl
regroup true false false d = refl
regroup true false true d = refl
regroup true true c d = refl

-- one more member keeps to all before it
pub pairs_push : {A : Type 0} (R : A → A → Bool) (xs : List A) (x : A) → each_pair R (xs ++ x ∷ []) ≡ (each_pair R xs && list_all (λ y. R y x) xs)
pairs_push R [] x = refl
pairs_push R (y ∷ ys) x =
    (λ k. list_all-append (R y) ys (x ∷ []) k && pairs_push R ys x k)
    ∙ regroup (list_all (R y) ys) (R y x) (each_pair R ys) (list_all (λ z. R z x) ys)

-- no first one that fails: all pass
pub find-none : {A : Type 0} (test : A → Bool) (xs : List A) → find (λ x. not (test x)) xs ≡ None → list_all test xs ≡ true
find-none test [] h = refl
find-none {A} test (x ∷ xs) h = by_test (find-none test xs) (test x) h where
  by_test : (find (λ y. not (test y)) xs ≡ None → list_all test xs ≡ true) → (b : Bool) → cond (not b) (Some x) (find (λ y. not (test y)) xs) ≡ None → (b && list_all test xs) ≡ true
  by_test rest true h = rest h
  by_test rest false h = cc

-- pairs of a list that goes on behind one member
pub pairs_parts : {A : Type 0} (R : A → A → Bool) (xs : List A) (y : A) (ys : List A) → each_pair R (xs ++ y ∷ ys) ≡ true → (each_pair R xs ≡ true) × (list_all (λ x. R x y) xs ≡ true)
pairs_parts R [] y ys h = (refl, refl)
pairs_parts R (x ∷ xs) y ys h =
    let parts = and_parts (list_all (R x) (xs ++ y ∷ ys)) (each_pair R (xs ++ y ∷ ys)) h in
    let rest = pairs_parts R xs y ys parts.1 in
    let front = and_parts (list_all (R x) xs) (list_all (R x) (y ∷ ys)) (sym (list_all-append (R x) xs (y ∷ ys)) ∙ parts.0) in
    let here = and_parts (R x y) (list_all (R x) ys) front.1 in
    (and_from (list_all (R x) xs) (each_pair R xs) front.0 rest.0, and_from (R x y) (list_all (λ x. R x y) xs) here.0 rest.1)

-- tests that agree where a third one passes
pub all_same : {A : Type 0} (where_so f g : A → Bool) → ((x : A) → where_so x ≡ true → f x ≡ g x) → (xs : List A) → list_all where_so xs ≡ true → list_all f xs ≡ list_all g xs
all_same where_so f g same [] h = refl
all_same where_so f g same (x ∷ xs) h =
    let parts = and_parts (where_so x) (list_all where_so xs) h in
    λ k. same x parts.0 k && all_same where_so f g same xs parts.1 k

pub pairs_same : {A : Type 0} (where_so f g : A → A → Bool) → ((x y : A) → where_so x y ≡ true → f x y ≡ g x y) → (xs : List A) → each_pair where_so xs ≡ true → each_pair f xs ≡ each_pair g xs
pairs_same where_so f g same [] h = refl
pairs_same where_so f g same (x ∷ xs) h =
    let parts = and_parts (list_all (where_so x) xs) (each_pair where_so xs) h in
    λ k. all_same (where_so x) (f x) (g x) (same x) xs parts.0 k && pairs_same where_so f g same xs parts.1 k
