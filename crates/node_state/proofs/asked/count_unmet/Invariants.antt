use Rattle.std.proofs.Common.{◌≡◌, not, count_by, take}
use Rattle.tp_spec.specs.States.{holds}
use Rattle.world_state.specs.View.{meaning}
use Rattle.node_state.proofs.asked.count_unmet.Given as goal

abbrev pub invariant-loop-cond : goal.invariant-loop-cond
invariant-loop-cond l = l.count ≡ count_by (λ g. not (holds (meaning l.state) g)) (take l.cond-index l.conds)
