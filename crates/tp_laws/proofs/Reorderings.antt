-- Permutations as exchanges of neighbours, and what does not depend on the order of a list.
use Rattle.std.proofs.Common.{◌≡◌, refl, sym, ap, ◌∙◌, ℕ, zero, suc, ◌<◌, List, [], ◌∷◌, ◌++◌, length, get_or, set, arith}
use Rattle.std.specs.Prelude.{Bool, true, false, ◌&&◌, ◌||◌}
use Rattle.std.specs.List.{list_any, list_all, flat_map, swap}
use Rattle.std.specs.List.Sorted.{IsPermutation}
use Rattle.std.proofs.lemmas.List.Folds.{list_all-append, list_any-append}
use Rattle.std.proofs.lemmas.List.Sorted.{IsPermutation-keeps}
use Rattle.tp_spec.specs.Lists.{each_pair}

-- the same members in another order, which exchanges of neighbours reach
pub data Reordering {A : Type 0} : List A → List A → Type 0 where
  none : Reordering [] []
  same_first : (x : A) (xs ys : List A) → Reordering xs ys → Reordering (x ∷ xs) (x ∷ ys)
  exchanged : (x y : A) (xs : List A) → Reordering (x ∷ y ∷ xs) (y ∷ x ∷ xs)
  in_steps : (xs ys zs : List A) → Reordering xs ys → Reordering ys zs → Reordering xs zs

module _ {A : Type 0} where
  unmoved : (xs : List A) → Reordering xs xs
  unmoved [] = none
  unmoved (x ∷ xs) = same_first x xs xs (unmoved xs)

  -- the first in the place of another one
  first-exchanged : (d x : A) (xs : List A) (j : ℕ) → j < length xs → Reordering (x ∷ xs) (get_or xs j d ∷ set xs j x)
  first-exchanged d x [] j b = absurd (omega (arith, b))
  first-exchanged d x (y ∷ ys) zero b = exchanged x y ys
  first-exchanged d x (y ∷ ys) (suc j) b =
      let z : A = get_or ys j d in
      let left : List A = set ys j x in
      in_steps (x ∷ y ∷ ys) (y ∷ x ∷ ys) (z ∷ y ∷ left) (exchanged x y ys)
      (in_steps (y ∷ x ∷ ys) (y ∷ z ∷ left) (z ∷ y ∷ left) (same_first y (x ∷ ys) (z ∷ left) (first-exchanged d x ys j (omega (arith, b)))) (exchanged y z left))

  two-exchanged : (d : A) (xs : List A) (i j : ℕ) → i < length xs → j < length xs → Reordering xs (set (set xs i (get_or xs j d)) j (get_or xs i d))
  two-exchanged d [] i j a b = none
  two-exchanged d (x ∷ xs) zero zero a b = unmoved (x ∷ xs)
  two-exchanged d (x ∷ xs) zero (suc j) a b = first-exchanged d x xs j (omega (arith, b))
  two-exchanged d (x ∷ xs) (suc i) zero a b = first-exchanged d x xs i (omega (arith, a))
  two-exchanged d (x ∷ xs) (suc i) (suc j) a b = same_first x xs _ (two-exchanged d xs i j (omega (arith, a)) (omega (arith, b)))

  swapped : (xs : List A) (i j : ℕ) → i < length xs → j < length xs → Reordering xs (swap xs i j)
  swapped [] i j a b = none
  swapped (d ∷ xs) i j a b = two-exchanged d (d ∷ xs) i j a b

  pub reordering : (xs ys : List A) → IsPermutation xs ys → Reordering xs ys
  reordering xs = IsPermutation-keeps xs (Reordering xs) (unmoved xs) (λ l i j a b r. in_steps xs l (swap l i j) r (swapped l i j a b))

and-swap : (a b c : Bool) → (a && (b && c)) ≡ (b && (a && c))
and-swap true b c = refl
and-swap false true c = refl
and-swap false false c = refl

or-swap : (a b c : Bool) → (a || (b || c)) ≡ (b || (a || c))
or-swap true true c = refl
or-swap true false c = refl
or-swap false b c = refl

-- which tests pass does not depend on the order
all-members : {A : Type 0} (test : A → Bool) (xs ys : List A) → Reordering xs ys → list_all test xs ≡ list_all test ys
all-members test _ _ none = refl
all-members test _ _ (same_first x xs ys r) = ap (λ b. test x && b) (all-members test xs ys r)
all-members test _ _ (exchanged x y xs) = and-swap (test x) (test y) (list_all test xs)
all-members test _ _ (in_steps xs ys zs r q) = all-members test xs ys r ∙ all-members test ys zs q

module _ {A B : Type 0} (test : B → Bool) (part : A → List B) where
  pub all-parts : (xs ys : List A) → Reordering xs ys → list_all test (flat_map part xs) ≡ list_all test (flat_map part ys)
  all-parts _ _ none = refl
  all-parts _ _ (same_first x xs ys r) =
      list_all-append test (part x) (flat_map part xs)
      ∙ ap (λ b. list_all test (part x) && b) (all-parts xs ys r)
      ∙ sym (list_all-append test (part x) (flat_map part ys))
  all-parts _ _ (exchanged x y xs) =
      two x y ∙ and-swap (list_all test (part x)) (list_all test (part y)) (list_all test (flat_map part xs)) ∙ sym (two y x)
    where
      two : (x y : A) → list_all test (part x ++ (part y ++ flat_map part xs)) ≡ (list_all test (part x) && (list_all test (part y) && list_all test (flat_map part xs)))
      two x y = list_all-append test (part x) (part y ++ flat_map part xs) ∙ ap (λ b. list_all test (part x) && b) (list_all-append test (part y) (flat_map part xs))
  all-parts _ _ (in_steps xs ys zs r q) = all-parts xs ys r ∙ all-parts ys zs q

  pub any-parts : (xs ys : List A) → Reordering xs ys → list_any test (flat_map part xs) ≡ list_any test (flat_map part ys)
  any-parts _ _ none = refl
  any-parts _ _ (same_first x xs ys r) =
      list_any-append test (part x) (flat_map part xs)
      ∙ ap (λ b. list_any test (part x) || b) (any-parts xs ys r)
      ∙ sym (list_any-append test (part x) (flat_map part ys))
  any-parts _ _ (exchanged x y xs) =
      two x y ∙ or-swap (list_any test (part x)) (list_any test (part y)) (list_any test (flat_map part xs)) ∙ sym (two y x)
    where
      two : (x y : A) → list_any test (part x ++ (part y ++ flat_map part xs)) ≡ (list_any test (part x) || (list_any test (part y) || list_any test (flat_map part xs)))
      two x y = list_any-append test (part x) (part y ++ flat_map part xs) ∙ ap (λ b. list_any test (part x) || b) (list_any-append test (part y) (flat_map part xs))
  any-parts _ _ (in_steps xs ys zs r q) = any-parts xs ys r ∙ any-parts ys zs q

-- what holds of each two members, in either order, holds of them reordered
pub pairs : {A : Type 0} (related : A → A → Bool) → ((x y : A) → related x y ≡ related y x)
    → (xs ys : List A) → Reordering xs ys → each_pair related xs ≡ each_pair related ys
pairs related even _ _ none = refl
pairs related even _ _ (same_first x xs ys r) = λ k. all-members (related x) xs ys r k && pairs related even xs ys r k
pairs related even _ _ (exchanged x y xs) =
    ap (λ b. (b && list_all (related x) xs) && (list_all (related y) xs && each_pair related xs)) (even x y)
    ∙ turned (related y x) (list_all (related x) xs) (list_all (related y) xs) (each_pair related xs)
  where
    turned : (a b c d : Bool) → ((a && b) && (c && d)) ≡ ((a && c) && (b && d))
    turned false b c d = refl
    turned true b c d = and-swap b c d
pairs related even _ _ (in_steps xs ys zs r q) = pairs related even xs ys r ∙ pairs related even ys zs q
