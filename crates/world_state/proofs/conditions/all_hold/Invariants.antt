use Rattle.std.proofs.Common.{◌≡◌, true, take}
use Rattle.std.specs.List.{list_all}
use Rattle.tp_spec.specs.States.{holds}
use Rattle.world_state.specs.View.{meaning}
use Rattle.world_state.proofs.conditions.all_hold.Given as goal

abbrev pub invariant-loop-cond : goal.invariant-loop-cond
invariant-loop-cond l = list_all (holds (meaning l.state)) (take l.cond-index l.conds) ≡ true
