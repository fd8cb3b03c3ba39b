use Rattle.std.proofs.Common.{take}
use Rattle.std.specs.List.{list_any}
use Rattle.world_state.specs.Rows.{Takes}
use Rattle.node_state.specs.Readings.{begins}
use Rattle.node_state.proofs.running.put_started.Given as goal

abbrev pub invariant-loop-item : goal.invariant-loop-item
invariant-loop-item l = Takes l.fn.running l.running (λ a. list_any (begins l.problem a) (take l.item-index l.group))
