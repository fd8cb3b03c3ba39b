use Rattle.std.proofs.Common.{◌≡◌, length}
use Rattle.plan_validator.specs.Standings.{behind_at}
use Rattle.plan_validator.proofs.course.behind.Given as goal

abbrev pub invariant-loop-rest : goal.invariant-loop-rest
invariant-loop-rest l = behind_at l.tick l.rest ≡ behind_at l.tick l.standings

abbrev pub decreases-loop-rest : goal.decreases-loop-rest
decreases-loop-rest l = length l.rest
