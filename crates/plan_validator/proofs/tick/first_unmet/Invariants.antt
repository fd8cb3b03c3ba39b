use Rattle.std.proofs.Common.{◌≡◌, not, length}
use Rattle.std.specs.List.{find}
use Rattle.tp_spec.specs.Items.{own}
use Rattle.world_state.specs.View.{meaning}
use Rattle.plan_validator.proofs.tick.first_unmet.Given as goal

abbrev pub invariant-loop-rest : goal.invariant-loop-rest
invariant-loop-rest l = find (λ i. not (own l.problem (meaning l.state) i)) l.rest ≡ find (λ i. not (own l.problem (meaning l.state) i)) l.here

abbrev pub decreases-loop-rest : goal.decreases-loop-rest
decreases-loop-rest l = length l.rest
