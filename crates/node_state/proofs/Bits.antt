-- The bits of a word from a place on, and those in which two words differ.
use Rattle.std.proofs.Common.{◌≡◌, refl, sym, ap, ◌∙◌, ℕ, zero, suc, ◌+◌, ◌-◌, ◌*◌, ◌/◌, ◌%◌, ◌^◌, ◌<◌, ◌≤◌, List, slice_index, w64, arith}
use Rattle.std.specs.Prelude.{◌==◌, bit_xor}
use Rattle.std.specs.Int.{bit_at, trailing_zeros}
use Rattle.std.proofs.lemmas.Nat.{shr-shr, shr_le}
use Rattle.std.proofs.lemmas.Nat.Bits.{bit_at_xor, bit_at-zero, bit_at-lt, bit_at-trailing_zeros}
use Rattle.world_state.specs.Rows.{has_bit}

shifted : (w from i : ℕ) → bit_at (w / 2 ^ from) i ≡ bit_at w (from + i)
shifted w from i = ap (λ x. x % 2) (shr-shr w from i)

behind : (w from i : ℕ) → from ≤ i → bit_at (w / 2 ^ from) (i - from) ≡ 0 → bit_at w i ≡ 0
behind w from i after e =
    let place : i ≡ from + (i - from) = omega (arith, after) in
    ap (bit_at w) place ∙ sym (shifted w from (i - from)) ∙ e

pub none-behind : (w from i : ℕ) → w / 2 ^ from ≡ 0 → from ≤ i → bit_at w i ≡ 0
none-behind w from i none after = behind w from i after (ap (λ x. bit_at x (i - from)) none ∙ bit_at-zero (i - from))

positive : (n : ℕ) → (n ≡ 0 → ⊥) → 0 < n
positive zero h = absurd (h refl)
positive (suc n) h = omega arith

less : (a b c : ℕ) → a ≤ b → b < c → a < c
less a b c h k = omega arith

pub none-between : (w from i : ℕ) → (w / 2 ^ from ≡ 0 → ⊥) → w < 2 ^ 64 → from ≤ i → i < from + trailing_zeros w64 (w / 2 ^ from) → bit_at w i ≡ 0
none-between w from i some fits after before =
    let low = bit_at-trailing_zeros w64 (w / 2 ^ from) (positive (w / 2 ^ from) some) (less (w / 2 ^ from) w (2 ^ 64) (shr_le w from) fits) in
    behind w from i after (low.2 (i - from) (omega (arith, after, before)))

xor-same : (a b : ℕ) → a < 2 → b < 2 → (a + b) % 2 ≡ 0 → a ≡ b
xor-same a b small less e = omega (arith, small, less, e)

-- the facts of a block in which two states do not differ
pub unchanged : (k from to : ℕ) (old new : List ℕ) → to ≤ 64 → ((i : ℕ) → from ≤ i → i < to → bit_at (bit_xor (slice_index old k) (slice_index new k)) i ≡ 0)
    → (g : ℕ) → 64 * k + from ≤ g → g < 64 * k + to → has_bit old g ≡ has_bit new g
unfolding has_bit
unchanged k from to old new small none g above below =
    let block : g / 64 ≡ k = omega (arith, small, above, below) in
    let after : from ≤ g % 64 = omega (arith, small, above, below) in
    let before : g % 64 < to = omega (arith, small, above, below) in
    let one = bit_at (slice_index old k) (g % 64) in
    let other = bit_at (slice_index new k) (g % 64) in
    let same : one ≡ other = xor-same one other (bit_at-lt (slice_index old k) (g % 64)) (bit_at-lt (slice_index new k) (g % 64)) (sym (bit_at_xor (slice_index old k) (slice_index new k) (g % 64)) ∙ none (g % 64) after before) in
    ap (λ (j : ℕ). bit_at (slice_index old j) (g % 64) == 1) block ∙ ap (λ x. x == 1) same ∙ ap (λ (j : ℕ). bit_at (slice_index new j) (g % 64) == 1) (sym block)
