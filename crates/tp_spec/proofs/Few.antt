-- What is asked of each number below one or two, and of each member of a short list.
use Rattle.std.proofs.Common.{◌≡◌, ℕ, zero, suc, ◌<◌, arith, subst, inl, inr, List, [], ◌∷◌, ap, Some, None}
use Rattle.tp_spec.specs.Lists.{IsIn}

pub below_one : (P : ℕ → Type 0) → P 0 → (g : ℕ) → g < 1 → P g
below_one P h zero b = h
below_one P h (suc g) b = absurd (omega (arith, b))

pub below_two : (P : ℕ → Type 0) → P 0 → P 1 → (g : ℕ) → g < 2 → P g
below_two P h k zero b = h
below_two P h k (suc zero) b = k
below_two P h k (suc (suc g)) b = absurd (omega (arith, b))

pub next_below_two : (P : ℕ → Type 0) → P 0 → (g : ℕ) → suc g < 2 → P g
next_below_two P h zero b = h
next_below_two P h (suc g) b = absurd (omega (arith, b))

pub one_in : {A : Type 0} (P : A → Type 0) (x : A) → P x → (a : A) → IsIn a (x ∷ []) → P a
one_in P x h a i = elim i [ inl e ↦ subst P e h | inr n ↦ absurd n ]

pub two_in : {A : Type 0} (P : A → Type 0) (x y : A) → P x → P y → (a : A) → IsIn a (x ∷ y ∷ []) → P a
two_in P x y h k a i = elim i [ inl e ↦ subst P e h | inr n ↦ one_in P y k a n ]

pub some_none : {A : Type 0} (x : A) → Some x ≡ None → ⊥
some_none x q = cc

-- no list begins with 1 and with 2
pub second_first : (rest : List ℕ) → ◌≡◌ {A = List ℕ} (1 ∷ 2 ∷ []) (2 ∷ rest) → ⊥
second_first rest q = let e : ◌≡◌ {A = ℕ} 1 2 = ap (λ xs. elim xs [ [] ↦ 0 | x ∷ ys ↦ x ]) q in omega (arith, e)
