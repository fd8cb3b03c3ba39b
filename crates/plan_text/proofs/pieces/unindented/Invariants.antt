use Rattle.std.proofs.Common.{◌≡◌, length}
use Rattle.plan_text.specs.Pieces.{unindented}
use Rattle.plan_text.proofs.pieces.unindented.Given as goal

abbrev pub invariant-loop-rest : goal.invariant-loop-rest
invariant-loop-rest l = unindented l.rest ≡ unindented l.text

abbrev pub decreases-loop-rest : goal.decreases-loop-rest
decreases-loop-rest l = length l.rest
