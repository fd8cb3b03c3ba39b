use Rattle.std.proofs.Common.{take}
use Rattle.std.specs.List.{list_any}
use Rattle.tp_spec.specs.Items.{deletes, effects}
use Rattle.world_state.specs.Rows.{Loses}
use Rattle.world_state.proofs.changes.delete_facts.Given as goal

abbrev pub invariant-loop-item : goal.invariant-loop-item
invariant-loop-item l = Loses l.initial.facts l.facts (λ f. list_any (λ i. list_any (deletes f) (effects l.problem i)) (take l.item-index l.items))
