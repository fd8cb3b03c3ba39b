use Rattle.std.proofs.Common.{◌≡◌, length}
use Rattle.plan_validator.specs.Watched.{later_at}
use Rattle.plan_validator.proofs.running.later.Given as goal

abbrev pub invariant-loop-rest : goal.invariant-loop-rest
invariant-loop-rest l = later_at l.tick l.rest ≡ later_at l.tick l.coming

abbrev pub decreases-loop-rest : goal.decreases-loop-rest
decreases-loop-rest l = length l.rest
