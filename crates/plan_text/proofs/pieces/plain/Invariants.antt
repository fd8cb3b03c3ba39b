use Rattle.std.proofs.Common.{◌≡◌, ◌++◌, map, drop}
use Rattle.std.specs.Char.{to_ascii_lowercase}
use Rattle.plan_text.specs.Pieces.{plain}
use Rattle.plan_text.proofs.pieces.plain.Given as goal

abbrev pub invariant-loop-b : goal.invariant-loop-b
invariant-loop-b l = l.out.items ++ map to_ascii_lowercase (drop l.b-index l.b-items) ≡ plain l.line
