use Rattle.std.proofs.Common.{map, ◌*◌, ◌-◌, ◌≤◌}
use Rattle.std.specs.List.{range_with_len}
use Rattle.node_state.specs.Readings.{progress_of}
use Rattle.node_state.specs.Founds.{Grew}
use Rattle.node_state.specs.Judges.{item_of}
use Rattle.node_state.proofs.judge.Judge.offer_block.Given as goal

abbrev pub invariant-loop-bit : goal.invariant-loop-bit
invariant-loop-bit l = (l.bit ≤ 64) × Grew l.self (progress_of l.reading) l.fresh l.fn.found l.found (map (item_of l.starts) (range_with_len (64 * l.block) l.bit))

abbrev pub decreases-loop-bit : goal.decreases-loop-bit
decreases-loop-bit l = 64 - l.bit
