use Rattle.std.proofs.Common.{◌≡◌, true, take}
use Rattle.std.specs.List.{list_all}
use Rattle.tp_spec.specs.Items.{fits}
use Rattle.world_state.proofs.changes.narrowed.Given as goal

abbrev pub invariant-loop-value : goal.invariant-loop-value
invariant-loop-value l = record { copied : l.values.items ≡ take l.value-index l.wide; fit : list_all fits (take l.value-index l.wide) ≡ true }
