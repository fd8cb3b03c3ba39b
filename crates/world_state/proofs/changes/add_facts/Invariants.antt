use Rattle.std.proofs.Common.{take}
use Rattle.std.specs.List.{list_any}
use Rattle.tp_spec.specs.Items.{adds, effects}
use Rattle.world_state.specs.Rows.{Takes}
use Rattle.world_state.proofs.changes.add_facts.Given as goal

abbrev pub invariant-loop-item : goal.invariant-loop-item
invariant-loop-item l = Takes l.initial.facts l.facts (λ f. list_any (λ i. list_any (adds f) (effects l.problem i)) (take l.item-index l.items))
