use Rattle.std.proofs.Common.{◌≡◌, ◌++◌, drop}
use Rattle.plan_text.specs.Pieces.{spaced_behind, spaced}
use Rattle.plan_text.proofs.pieces.spaced.Given as goal

abbrev pub invariant-loop-b : goal.invariant-loop-b
invariant-loop-b l = l.out.items ++ spaced_behind l.blank (drop l.b-index l.b-items) ≡ spaced l.text
