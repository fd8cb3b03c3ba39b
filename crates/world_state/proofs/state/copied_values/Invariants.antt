use Rattle.std.proofs.Common.{◌≡◌, true, take}
use Rattle.std.specs.List.{list_all}
use Rattle.tp_spec.specs.Items.{fits}
use Rattle.world_state.proofs.state.copied_values.Given as goal

abbrev pub invariant-loop-value : goal.invariant-loop-value
invariant-loop-value l = record { copied : l.copy.items ≡ take l.value-index l.values; narrow : list_all fits l.copy.items ≡ true }
