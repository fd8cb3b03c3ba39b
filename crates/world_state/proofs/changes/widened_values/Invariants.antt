use Rattle.std.proofs.Common.{◌≡◌, ◌^◌, take}
use Rattle.world_state.specs.Exact.{AreBounded}
use Rattle.world_state.proofs.changes.widened_values.Given as goal

abbrev pub invariant-loop-value : goal.invariant-loop-value
invariant-loop-value l = record { same : l.wide.items ≡ take l.value-index l.values; bounded : AreBounded (2 ^ 63) l.wide.items }
