use Rattle.std.proofs.Common.{take}
use Rattle.std.specs.List.{list_any}
use Rattle.tp_spec.specs.Words.{is_end_of}
use Rattle.world_state.specs.Rows.{Loses}
use Rattle.node_state.proofs.running.take_ended.Given as goal

abbrev pub invariant-loop-item : goal.invariant-loop-item
invariant-loop-item l = Loses l.fn.running l.running (λ a. list_any (is_end_of a) (take l.item-index l.group))
