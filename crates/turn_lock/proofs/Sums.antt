-- Sums over the views, read by place.
use Rattle.std.proofs.Common.{◌≡◌, ◌≢◌, ℕ, zero, suc, ◌+◌, ◌≤◌, List, [], ◌∷◌, ◌++◌, set, refl, sym, ap, arith}
use Rattle.std.specs.List.{sum_by}
use Rattle.std.proofs.lemmas.List.Sums.{sum_by-cons, sum_by_push}
use mathlib.Core.Option.{some, some-injective, some-ne-none}
use lib.ListN.{get_elem?}

module _ {X : Type 0} (f : X → ℕ) where
  -- the sum after a change at one place
  pub sum_set : (xs : List X) (i : ℕ) (a b : X) → get_elem? xs i ≡ some a → sum_by f (set xs i b) + f a ≡ sum_by f xs + f b
  sum_set [] i a b e = absurd (some-ne-none a (sym e))
  sum_set (x ∷ xs) zero a b e = omega (arith, sum_by-cons f b xs, sum_by-cons f x xs, ap f (some-injective x a e))
  sum_set (x ∷ xs) (suc i) a b e = omega (arith, sum_by-cons f x (set xs i b), sum_by-cons f x xs, sum_set xs i a b e)

  -- the sum where all but one are 0
  pub sum_none : (xs : List X) → ((j : ℕ) (b : X) → get_elem? xs j ≡ some b → f b ≡ 0) → sum_by f xs ≡ 0
  sum_none [] h = refl
  sum_none (x ∷ xs) h = omega (arith, sum_by-cons f x xs, h 0 x refl, sum_none xs (λ j b e. h (suc j) b e))

  pub sum_only : (xs : List X) (i : ℕ) (a : X) → get_elem? xs i ≡ some a → ((j : ℕ) (b : X) → j ≢ i → get_elem? xs j ≡ some b → f b ≡ 0) → sum_by f xs ≡ f a
  sum_only [] i a e h = absurd (some-ne-none a (sym e))
  sum_only (x ∷ xs) zero a e h = omega (arith, sum_by-cons f x xs, ap f (some-injective x a e), sum_none xs (λ j b k. h (suc j) b (λ z. omega arith) k))
  sum_only (x ∷ xs) (suc i) a e h =
      omega (arith, sum_by-cons f x xs, h 0 x (λ z. omega arith) refl, sum_only xs i a e (λ j b n k. h (suc j) b (λ z. n (omega arith)) k))

  -- one of them is no more than the sum
  pub sum_one : (xs : List X) (i : ℕ) (a : X) → get_elem? xs i ≡ some a → f a ≤ sum_by f xs
  sum_one [] i a e = absurd (some-ne-none a (sym e))
  sum_one (x ∷ xs) zero a e = omega (arith, sum_by-cons f x xs, ap f (some-injective x a e))
  sum_one (x ∷ xs) (suc i) a e = omega (arith, sum_by-cons f x xs, sum_one xs i a e)

  -- nor are two
  pub sum_two : (xs : List X) (i j : ℕ) (a b : X) → j ≢ i → get_elem? xs i ≡ some a → get_elem? xs j ≡ some b → f a + f b ≤ sum_by f xs
  sum_two [] i j a b n e k = absurd (some-ne-none a (sym e))
  sum_two (x ∷ xs) zero zero a b n e k = absurd (n refl)
  sum_two (x ∷ xs) zero (suc j) a b n e k = omega (arith, sum_by-cons f x xs, ap f (some-injective x a e), sum_one xs j b k)
  sum_two (x ∷ xs) (suc i) zero a b n e k = omega (arith, sum_by-cons f x xs, ap f (some-injective x b k), sum_one xs i a e)
  sum_two (x ∷ xs) (suc i) (suc j) a b n e k = omega (arith, sum_by-cons f x xs, sum_two xs i j a b (λ z. n (ap suc z)) e k)

-- a sum that is no more, place by place
pub sum_le : {X : Type 0} (f g : X → ℕ) (xs : List X) → ((j : ℕ) (b : X) → get_elem? xs j ≡ some b → f b ≤ g b) → sum_by f xs ≤ sum_by g xs
sum_le f g [] h = omega arith
sum_le f g (x ∷ xs) h = omega (arith, sum_by-cons f x xs, sum_by-cons g x xs, h 0 x refl, sum_le f g xs (λ j b e. h (suc j) b e))

-- the sum with one more
pub sum_more : {X : Type 0} (f : X → ℕ) (xs : List X) (b : X) → sum_by f (xs ++ b ∷ []) ≡ sum_by f xs + f b
sum_more f xs b = sum_by_push f xs b
