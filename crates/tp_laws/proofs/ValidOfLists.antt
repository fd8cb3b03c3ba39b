-- What holds of each two members of a list, the earlier first.
use Rattle.std.proofs.Common.{◌≡◌, refl, sym, ap, subst, ◌∙◌, inl, inr, length, ℕ, zero, suc, ◌<◌, Bool, true, false, cond, List, [], ◌∷◌, ◌++◌, map, Some, arith}
use Rattle.std.specs.Prelude.{slice_get}
use Rattle.std.specs.List.{AllByRecursion as Each, filter, list_any}
use Rattle.std.proofs.lemmas.Bool.{and_from, or_left, or_right}
use Rattle.tp_spec.specs.Lists.{IsIn, each_pair}
use Rattle.tp_laws.proofs.EarlyLists.{each-in, each-map, each-push, each-filter, true-each}
use Rattle.tp_laws.proofs.ClockCommits.{in_get}

abbrev pub Pairs : {A : Type 0} → (A → A → Type 0) → List A → Type 0
Pairs R [] = Unit {0}
Pairs R (x ∷ xs) = Each (R x) xs × Pairs R xs

-- what holds of every member
pub each-of : {A : Type 0} (P : A → Type 0) (xs : List A) → ((x : A) → IsIn x xs → P x) → Each P xs
each-of P [] f = tt
each-of P (x ∷ xs) f = (f x (inl refl), each-of P xs (λ y i. f y (inr i)))

pub each-mapped : {A B : Type 0} (P : B → Type 0) (f : A → B) (xs : List A) → Each (λ x. P (f x)) xs → Each P (map f xs)
each-mapped P f [] h = tt
each-mapped P f (x ∷ xs) h = (h.0, each-mapped P f xs h.1)

pub pairs-push : {A : Type 0} (R : A → A → Type 0) (xs : List A) (y : A) → Pairs R xs → Each (λ x. R x y) xs → Pairs R (xs ++ y ∷ [])
pairs-push R [] y r h = (tt, tt)
pairs-push R (x ∷ xs) y r h = (each-push (R x) xs y r.0 h.0, pairs-push R xs y r.1 h.1)

-- pairs of members of which each is as given
pub pairs-with : {A : Type 0} (R S : A → A → Type 0) (P : A → Type 0) (xs : List A) → ((x y : A) → P x → P y → R x y → S x y) → Each P xs → Pairs R xs → Pairs S xs
pairs-with R S P [] f h r = tt
pairs-with {A} R S P (x ∷ xs) f h r = (rest xs h.1 r.0, pairs-with R S P xs f h.1 r.1) where
  rest : (ys : List A) → Each P ys → Each (R x) ys → Each (S x) ys
  rest [] k q = tt
  rest (y ∷ ys) k q = (f x y h.0 k.0 q.0, rest ys k.1 q.1)

pub pairs-mapped : {A B : Type 0} (R : B → B → Type 0) (f : A → B) (xs : List A) → Pairs (λ x y. R (f x) (f y)) xs → Pairs R (map f xs)
pairs-mapped R f [] r = tt
pairs-mapped R f (x ∷ xs) r = (each-mapped (R (f x)) f xs r.0, pairs-mapped R f xs r.1)

pub pairs-test : {A : Type 0} (R : A → A → Type 0) (test : A → A → Bool) (xs : List A) → ((x y : A) → R x y → test x y ≡ true) → Pairs R xs → each_pair test xs ≡ true
pairs-test R test [] f r = refl
pairs-test R test (x ∷ xs) f r = and_from _ _ (true-each (test x) xs (each-map (R x) (λ y. test x y ≡ true) xs (f x) r.0)) (pairs-test R test xs f r.1)

pub pairs-filter : {A : Type 0} (R : A → A → Type 0) (test : A → Bool) (xs : List A) → Pairs R xs → Pairs R (filter test xs)
pairs-filter R test [] r = tt
pairs-filter R test (x ∷ xs) r = elim (test x) as (λ b. Pairs R (cond b (x ∷ filter test xs) (filter test xs))) [
  | true ↦ (each-filter (R x) test xs r.0, pairs-filter R test xs r.1)
  | false ↦ pairs-filter R test xs r.1
]

-- two members by their places
pub pairs-at : {A : Type 0} (R : A → A → Type 0) (xs : List A) (j k : ℕ) (x y : A) → Pairs R xs → j < k → slice_get xs j ≡ Some x → slice_get xs k ≡ Some y → R x y
pairs-at R [] j k x y r b e f = absurd cc
pairs-at R (z ∷ xs) j zero x y r b e f = absurd (omega (arith, b))
pairs-at R (z ∷ xs) zero (suc k) x y r b e f = let same : z ≡ x = cc in subst (λ u. R u y) same (each-in (R z) xs y r.0 (in_get xs k y f))
pairs-at R (z ∷ xs) (suc j) (suc k) x y r b e f = pairs-at R xs j k x y r.1 (omega (arith, b)) e f

pub any-true : {A : Type 0} (test : A → Bool) (xs : List A) (x : A) → IsIn x xs → test x ≡ true → list_any test xs ≡ true
any-true test [] x i e = absurd i
any-true test (y ∷ xs) x (inl s) e = or_left _ _ (ap test s ∙ e)
any-true test (y ∷ xs) x (inr i) e = or_right (test y) _ (any-true test xs x i e)

pub filter-passes : {A : Type 0} (test : A → Bool) (xs : List A) (x : A) → IsIn x (filter test xs) → test x ≡ true
filter-passes test [] x i = absurd i
filter-passes {A} test (y ∷ xs) x i = by_test (filter-passes test xs x) (test y) refl i where
  by_test : (IsIn x (filter test xs) → test x ≡ true) → (b : Bool) → test y ≡ b → IsIn x (cond b (y ∷ filter test xs) (filter test xs)) → test x ≡ true
  by_test ih true e (inl s) = ap test (sym s) ∙ e
  by_test ih true e (inr j) = ih j
  by_test ih false e j = ih j

-- the place of a member
pub place-of : {A : Type 0} (xs : List A) (x : A) → IsIn x xs → (k : ℕ) × (slice_get xs k ≡ Some x) × (k < length xs)
place-of [] x i = absurd i
place-of (y ∷ xs) x (inl e) = (0, ap Some e, omega arith)
place-of (y ∷ xs) x (inr i) = let r = place-of xs x i in (suc r.0, r.1, omega (arith, r.2))
