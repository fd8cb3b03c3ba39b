use Rattle.std.proofs.Common.{take}
use Rattle.std.specs.List.{list_any}
use Rattle.tp_spec.specs.Items.{adds}
use Rattle.world_state.specs.Rows.{Takes}
use Rattle.world_state.proofs.changes.add_by_effects.Given as goal

abbrev pub invariant-loop-effect : goal.invariant-loop-effect
invariant-loop-effect l = Takes l.initial.facts l.facts (λ f. list_any (adds f) (take l.effect-index l.effects))
