-- Counts that end at 128 bits, against their limits.
use Rattle.std.proofs.Common.{◌≡◌, ℕ, zero, suc, ◌+◌, ◌*◌, ◌-◌, ◌^◌, ◌<◌, ◌≤◌, min, cond, Option, Some, ap, sym, ◌∙◌, arith, inl, inr, List, [], ◌∷◌, length, get_or, take, drop}
use Rattle.std.proofs.lemmas.List.{take_all}
use Rattle.std.proofs.Math.Nat.{mul_assoc, mul-suc, mul-zero}
use Rattle.std.proofs.lemmas.Bool.{lt-ltb, le-ltb, cases_lt}
use Rattle.grounder.specs.declared.fault.CountKind.{CountKind}
use Rattle.grounder.specs.Grounded.{past}

-- a sum that stands still at the most
pub sum_step : (m a x y z rest : ℕ) → z ≡ min x m → y ≡ min (a + z) m → min (y + rest) m ≡ min (a + (x + rest)) m
sum_step m a x y z rest is e = omega (arith, is, e)

product_past : (m p n r : ℕ) → m ≤ p * n → min (m * r) m ≡ min (p * (n * r)) m
product_past m p n zero h = ap (λ k. min k m) (mul-zero m ∙ sym (ap (λ k. p * k) (mul-zero n) ∙ mul-zero p))
product_past m p n (suc r) h =
    let left : m * suc r ≡ m * r + m = mul-suc m r in
    let right : p * n * suc r ≡ p * n * r + p * n = mul-suc (p * n) r in
    let grouped : p * n * suc r ≡ p * (n * suc r) = mul_assoc p n (suc r) in
    omega (arith, h, left, right, grouped)

-- a product that stands still at the most
pub product_step : (m p n q r : ℕ) → q ≡ min (p * n) m → min (q * r) m ≡ min (p * (n * r)) m
product_step m p n q r e =
    elim (cases_lt m (p * n)) [
      | inl h ↦ (let same : q ≡ m = omega (arith, e, h) in ap (λ k. min (k * r) m) same ∙ product_past m p n r (omega (arith, h)))
      | inr h ↦ (let same : q ≡ p * n = omega (arith, e, h) in ap (λ k. min (k * r) m) same ∙ ap (λ k. min k m) (mul_assoc p n r))
    ]

-- a count past its limit is told
pub past_yes : (limit n k : ℕ) (kind : CountKind) (next : Option (CountKind × ℕ)) → k ≡ min n (2 ^ 128 - 1) → limit < k → past limit kind n next ≡ Some (kind, k)
past_yes limit n k kind next e h =
    let over : limit < n = omega (arith, e, h) in
    ap (λ b. cond b (Some (kind, min n (2 ^ 128 - 1))) next) (lt-ltb limit n over)
    ∙ ap (λ x. Some (kind, x)) (sym e)

-- one within its limit is passed over
pub past_no : (limit n k : ℕ) (kind : CountKind) (next : Option (CountKind × ℕ)) → k ≡ min n (2 ^ 128 - 1) → limit < 2 ^ 128 - 1 → k ≤ limit → past limit kind n next ≡ next
past_no limit n k kind next e small h =
    let under : n ≤ limit = omega (arith, e, small, h) in
    ap (λ b. cond b (Some (kind, min n (2 ^ 128 - 1))) next) (le-ltb limit n under)

-- a list by its first member and the rest
pub total_split : {X : Type 0} (total : List X → ℕ) (first : X → ℕ → ℕ) (law : (y : X) (ys : List X) → total (y ∷ ys) ≡ first y (total ys)) (xs : List X) (x : X) → 1 ≤ length xs → x ≡ get_or xs 0 x → total xs ≡ first x (total (take (length xs - 1) (drop 1 xs)))
total_split total first law [] x h here = absurd (omega arith)
total_split total first law (y ∷ ys) x h here =
    let whole : take (length (y ∷ ys) - 1) ys ≡ ys = take_all (length (y ∷ ys) - 1) ys (omega arith) in
    law y ys
    ∙ ap (λ z. first z (total ys)) (sym here)
    ∙ ap (λ l. first x (total l)) (sym whole)
