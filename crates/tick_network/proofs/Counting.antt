-- How many of the first numbers pass a test.
use Rattle.std.proofs.Common.{◌≡◌, ℕ, zero, suc, ◌+◌, ◌<◌, ◌≤◌, Bool, true, false, cond, refl, sym, subst, arith}
use Rattle.std.proofs.Common.{inl, inr}
use Rattle.std.proofs.lemmas.Bool.{false≢true, cases_eq}

abbrev pub passing : ℕ → (ℕ → Bool) → ℕ
passing zero f = 0
passing (suc n) f = cond (f n) 1 0 + passing n f

most_by : (a : Bool) (m n : ℕ) → m ≤ n → cond a 1 0 + m ≤ suc n
most_by true m n le = omega arith
most_by false m n le = omega arith

pub passing-most : (n : ℕ) (f : ℕ → Bool) → passing n f ≤ n
passing-most zero f = omega arith
passing-most (suc n) f = most_by (f n) (passing n f) n (passing-most n f)

kept_by : (a b : Bool) (m n : ℕ) → (a ≡ true → b ≡ true) → m ≤ n → cond a 1 0 + m ≤ cond b 1 0 + n
kept_by true true m n i le = omega arith
kept_by true false m n i le = absurd (false≢true (i refl))
kept_by false true m n i le = omega arith
kept_by false false m n i le = omega arith

more_by : (a b : Bool) (m n : ℕ) → (a ≡ true → b ≡ true) → m < n → cond a 1 0 + m < cond b 1 0 + n
more_by true true m n i le = omega arith
more_by true false m n i le = absurd (false≢true (i refl))
more_by false true m n i le = omega arith
more_by false false m n i le = omega arith

new_by : (a b : Bool) (m n : ℕ) → a ≡ false → b ≡ true → m ≤ n → cond a 1 0 + m < cond b 1 0 + n
new_by true b m n i j le = absurd (false≢true (sym i))
new_by false true m n i j le = omega arith
new_by false false m n i j le = absurd (false≢true j)

-- what passes one test passes the other
pub passing-kept : (n : ℕ) (f g : ℕ → Bool) → ((v : ℕ) → v < n → f v ≡ true → g v ≡ true) → passing n f ≤ passing n g
passing-kept zero f g i = omega arith
passing-kept (suc n) f g i = kept_by (f n) (g n) (passing n f) (passing n g) (i n (omega arith)) (passing-kept n f g (λ v h. i v (omega arith)))

-- and one more passes the other alone
pub passing-more : (n : ℕ) (f g : ℕ → Bool) (u : ℕ) → ((v : ℕ) → v < n → f v ≡ true → g v ≡ true) → u < n → f u ≡ false → g u ≡ true → passing n f < passing n g
passing-more zero f g u i below off on = absurd (omega arith)
passing-more (suc n) f g u i below off on =
    elim (cases_eq u n) [
      | inl e ↦ new_by (f n) (g n) (passing n f) (passing n g) (subst (λ (k : ℕ). f k ≡ false) e off) (subst (λ (k : ℕ). g k ≡ true) e on) (passing-kept n f g (λ v h. i v (omega arith)))
      | inr ne ↦ more_by (f n) (g n) (passing n f) (passing n g) (i n (omega arith)) (passing-more n f g u (λ v h. i v (omega arith)) (omega arith) off on)
    ]
