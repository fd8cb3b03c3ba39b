use Rattle.std.proofs.Common.{◌≡◌, length}
use Rattle.std.specs.List.{find}
use Rattle.tp_spec.specs.Interference.{interfere}
use Rattle.tp_spec.specs.declared.problem.Problem.{Problem}
use Rattle.snap_actions.specs.Tables.{AreTables}
use Rattle.plan_validator.proofs.tick.first_against.Given as goal

abbrev pub invariant-loop-rest : goal.invariant-loop-rest
invariant-loop-rest l = (p : Problem) → AreTables p l.tables → find (λ x. interfere p l.item x) l.rest ≡ find (λ x. interfere p l.item x) l.others

abbrev pub decreases-loop-rest : goal.decreases-loop-rest
decreases-loop-rest l = length l.rest
