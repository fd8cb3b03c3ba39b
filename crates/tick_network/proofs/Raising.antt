-- A solution below some ticks is raised until it meets them everywhere, or a row is binding.
use Rattle.std.proofs.Common.{◌≡◌, ℕ, zero, suc, ◌+◌, ◌<◌, ◌≤◌, Bool, true, false, cond, eqb, List, [], ◌∷◌, length, get_or, refl, arith}
use Rattle.std.proofs.Common.{◌⊎◌, inl, inr}
use Rattle.std.specs.Prelude.{ℤ, pos, ◌+ℤ◌, ◌≤ℤ◌, ◌<ℤ◌, slice_index, All}
use Rattle.std.proofs.lemmas.Int.{ints, by_lt_z}
use Rattle.std.proofs.lemmas.Bool.{false≢true, eqb-true}
use Rattle.std.proofs.lemmas.Bool.Decides.{nat_tests}
use Rattle.std.proofs.lemmas.List.Elements.{All-nil, All-cons, All-head, All-tail}
use Rattle.tick_network.specs.declared.net.Row.{Row}
use Rattle.tick_network.specs.Nets.{KeepsRow, IsSolution}

-- one tick more for each variable that does not stand where h has it
abbrev pub incremented : (ℕ → ℕ) → (ℕ → ℕ) → ℕ → ℕ
incremented h s v = cond (eqb (s v) (h v)) (s v) (suc (s v))

-- a row that keeps its y from rising, while its x stands where h has it and its y does not
pub record IsBinding (h s : ℕ → ℕ) (r : Row) : Type 0 where
  pub from : s r.x ≡ h r.x
  pub free : eqb (s r.y) (h r.y) ≡ false
  pub tight : (pos (s r.x) +ℤ r.w) <ℤ pos (suc (s r.y))

pub record HasBinding (h s : ℕ → ℕ) (rows : List Row) : Type 0 where
  pub place : ℕ
  pub row : Row
  pub within : place < length rows
  pub is : get_or rows place row ≡ row
  pub binding : IsBinding h s row

kept_by : (p q : Bool) (a b : ℕ) (w : ℤ) → pos b ≤ℤ (pos a +ℤ w) → (p ≡ true → q ≡ false → pos (suc b) ≤ℤ (pos a +ℤ w)) → pos (cond q b (suc b)) ≤ℤ (pos (cond p a (suc a)) +ℤ w)
kept_by true true a b w k t = k
kept_by true false a b w k t = t refl refl
kept_by false true a b w k t = omega (arith, ints)
kept_by false false a b w k t = omega (arith, ints)

-- a row is kept by the incremented ticks, or is binding
pub kept_or_binding : (h s : ℕ → ℕ) (r : Row) → KeepsRow s r → KeepsRow (incremented h s) r ⊎ IsBinding h s r
kept_or_binding h s r k =
    by_lt_z (pos (s r.x) +ℤ r.w) (pos (suc (s r.y)))
    (λ tight. at tight (eqb (s r.x) (h r.x)) (eqb (s r.y) (h r.y)) refl refl)
    (λ le. inl (kept_by (eqb (s r.x) (h r.x)) (eqb (s r.y) (h r.y)) (s r.x) (s r.y) r.w k (λ _ _. le)))
  where
    at : (pos (s r.x) +ℤ r.w) <ℤ pos (suc (s r.y)) → (p q : Bool) → eqb (s r.x) (h r.x) ≡ p → eqb (s r.y) (h r.y) ≡ q → KeepsRow (incremented h s) r ⊎ IsBinding h s r
    at tight true false ep eq = inr (record { from = eqb-true (s r.x) (h r.x) ep; free = eq; tight = tight })
    at tight true true ep eq = inl (kept_by (eqb (s r.x) (h r.x)) (eqb (s r.y) (h r.y)) (s r.x) (s r.y) r.w k (λ _ f. absurd (false≢true cc)))
    at tight false q ep eq = inl (kept_by (eqb (s r.x) (h r.x)) (eqb (s r.y) (h r.y)) (s r.x) (s r.y) r.w k (λ f _. absurd (false≢true cc)))

pub kept_or_bound : (h s : ℕ → ℕ) (rows : List Row) → All (KeepsRow s) rows → All (KeepsRow (incremented h s)) rows ⊎ HasBinding h s rows
kept_or_bound h s [] k = inl (All-nil (KeepsRow (incremented h s)))
kept_or_bound h s (r ∷ rows) k =
    elim (kept_or_binding h s r (All-head (KeepsRow s) r rows k)) [
      | inr b ↦ inr (record { place = zero; row = r; within = omega arith; is = refl; binding = b })
      | inl one ↦ elim (kept_or_bound h s rows (All-tail (KeepsRow s) r rows k)) [
        | inr b ↦ inr (record { place = suc b.place; row = b.row; within = omega arith; is = b.is; binding = b.binding })
        | inl rest ↦ inl (All-cons (KeepsRow (incremented h s)) r rows one rest)
      ]
    ]

most_of : (a b : ℕ) → a ≤ b → cond (eqb a b) a (suc a) ≤ b
most_of a b le = grind (arith, nat_tests)

more_of : (a b : ℕ) → a ≤ cond (eqb a b) a (suc a)
more_of a b = grind (arith, nat_tests)

near_of : (a b m : ℕ) → a ≤ b → b ≤ a + suc m → b ≤ cond (eqb a b) a (suc a) + m
near_of a b m le near = grind (arith, nat_tests)

same_of : (a b : ℕ) → a ≡ b → cond (eqb a b) a (suc a) ≡ b
same_of a b e = grind (arith, nat_tests)

-- what a solution rises to
pub record Raises (low high : List ℕ) (rows : List Row) (h s : ℕ → ℕ) : Type 0 where
  pub to : ℕ → ℕ
  pub is : IsSolution low high rows to
  pub below : (v : ℕ) → v < length low → to v ≤ h v
  pub kept : (v : ℕ) → v < length low → s v ≡ h v → to v ≡ h v
  pub ends : ((v : ℕ) → v < length low → to v ≡ h v) ⊎ HasBinding h to rows

pub raised : (low high : List ℕ) (rows : List Row) (h : ℕ → ℕ) (m : ℕ) (s : ℕ → ℕ) → ((v : ℕ) → v < length low → h v ≤ slice_index high v) → IsSolution low high rows s → ((v : ℕ) → v < length low → s v ≤ h v) → ((v : ℕ) → v < length low → h v ≤ s v + m) → Raises low high rows h s
raised low high rows h zero s top is below near = record {
  to = s;
  is = is;
  below = below;
  kept = λ v b e. e;
  ends = inl (λ v b. omega (arith, below v b, near v b));
}
raised low high rows h (suc m) s top is below near =
    elim (kept_or_bound h s rows is.keeps) [
      | inr b ↦ record { to = s; is = is; below = below; kept = λ v b e. e; ends = inr b }
      | inl keeps ↦
          let r = raised low high rows h m (incremented h s) top
          (record {
            above = λ v b. omega (arith, is.above v b, more_of (s v) (h v));
            below = λ v b. omega (arith, top v b, most_of (s v) (h v) (below v b));
            keeps = keeps;
          })
          (λ v b. most_of (s v) (h v) (below v b))
          (λ v b. near_of (s v) (h v) m (below v b) (near v b)) in
          record { to = r.to; is = r.is; below = r.below; kept = λ v b e. r.kept v b (same_of (s v) (h v) e); ends = r.ends }
    ]
