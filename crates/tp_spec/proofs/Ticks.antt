-- What holds at each of some ticks holds up to the last one.
use Rattle.std.proofs.Common.{◌≡◌, ℕ, zero, suc, ◌≤◌, arith, subst, ◌⊎◌, inl, inr}

abbrev pub EachTick : (ℕ → Type 0) → ℕ → Type 0
EachTick P zero = P 0
EachTick P (suc n) = EachTick P n × P (suc n)

pub le_suc : (t n : ℕ) → t ≤ suc n → (t ≤ n) ⊎ (suc n ≡ t)
le_suc zero n h = inl (omega arith)
le_suc (suc t) zero h = inr (omega (arith, h))
le_suc (suc t) (suc n) h = elim (le_suc t n (omega (arith, h))) [ inl b ↦ inl (omega (arith, b)) | inr e ↦ inr (omega (arith, e)) ]

pub each_tick : (P : ℕ → Type 0) (n : ℕ) → EachTick P n → (t : ℕ) → t ≤ n → P t
each_tick P zero h t b = let e : 0 ≡ t = omega (arith, b) in subst P e h
each_tick P (suc n) h t b = elim (le_suc t n b) [ inl c ↦ each_tick P n h.0 t c | inr e ↦ subst P e h.1 ]
