use Rattle.std.proofs.Common.{◌≡◌, ◌++◌, length}
use Rattle.plan_validator.specs.Standings.{front_at}
use Rattle.plan_validator.proofs.course.items_at.Given as goal

abbrev pub invariant-loop-rest : goal.invariant-loop-rest
invariant-loop-rest l = l.items.items ++ front_at l.tick l.rest ≡ front_at l.tick l.standings

abbrev pub decreases-loop-rest : goal.decreases-loop-rest
decreases-loop-rest l = length l.rest
