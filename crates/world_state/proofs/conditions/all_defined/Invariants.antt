use Rattle.std.proofs.Common.{◌≡◌, true, take}
use Rattle.std.specs.List.{list_all}
use Rattle.tp_spec.specs.Items.{is_defined}
use Rattle.world_state.specs.View.{meaning}
use Rattle.world_state.proofs.conditions.all_defined.Given as goal

abbrev pub invariant-loop-effect : goal.invariant-loop-effect
invariant-loop-effect l = list_all (is_defined (meaning l.state)) (take l.effect-index l.effects) ≡ true
