use Rattle.std.proofs.Common.{◌≡◌, ℕ, ◌+◌, List, [], ◌∷◌, refl, ap, ◌∙◌, arith}
use Rattle.fault_places.specs.Places.{lines_len}
use Rattle.fault_places.proofs.places.line_offset.Goals as goal

-- no lines have no bytes
none_len : (text : List ℕ) → lines_len 0 text ≡ 0
none_len [] = refl
none_len (c ∷ rest) = refl

none_left : (len left all : ℕ) (rest : List ℕ) → left ≡ 0 → len + lines_len left rest ≡ all → len ≡ all
none_left len left all rest none counted =
    let e : lines_len left rest ≡ 0 = ap (λ (n : ℕ). lines_len n rest) none ∙ none_len rest in
    omega arith

pub returns-then-left-eq0-clause-is : goal.returns-then-left-eq0-clause-is
returns-then-left-eq0-clause-is c = none_left _ _ _ _ c.if-left-eq0.true c.loop-byte.invariant.counted
