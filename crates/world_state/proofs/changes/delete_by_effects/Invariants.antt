use Rattle.std.proofs.Common.{take}
use Rattle.std.specs.List.{list_any}
use Rattle.tp_spec.specs.Items.{deletes}
use Rattle.world_state.specs.Rows.{Loses}
use Rattle.world_state.proofs.changes.delete_by_effects.Given as goal

abbrev pub invariant-loop-effect : goal.invariant-loop-effect
invariant-loop-effect l = Loses l.initial.facts l.facts (λ f. list_any (deletes f) (take l.effect-index l.effects))
