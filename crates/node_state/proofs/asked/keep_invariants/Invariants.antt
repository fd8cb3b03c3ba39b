use Rattle.std.proofs.Common.{◌≡◌, true, not, ◌||◌, ◌*◌}
use Rattle.std.specs.List.{list_all, range_with_len}
use Rattle.tp_spec.specs.States.{holds}
use Rattle.tp_spec.specs.Items.{invariants}
use Rattle.world_state.specs.Rows.{is_in_row}
use Rattle.world_state.specs.View.{meaning}
use Rattle.node_state.proofs.asked.keep_invariants.Given as goal

abbrev pub invariant-loop-block : goal.invariant-loop-block
invariant-loop-block l = list_all (λ a. not (is_in_row l.running a) || list_all (holds (meaning l.state)) (invariants l.problem a)) (range_with_len 0 (64 * l.block)) ≡ true
