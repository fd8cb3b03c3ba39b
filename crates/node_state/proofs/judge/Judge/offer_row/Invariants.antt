use Rattle.std.proofs.Common.{map, ◌*◌, ◌-◌, ◌≤◌}
use Rattle.std.specs.List.{range_with_len}
use Rattle.node_state.specs.Readings.{progress_of}
use Rattle.node_state.specs.Founds.{Grew}
use Rattle.node_state.specs.Judges.{item_of}
use Rattle.node_state.proofs.judge.Judge.offer_row.Given as goal

abbrev pub invariant-loop-block : goal.invariant-loop-block
invariant-loop-block l = (l.block ≤ l.blocks) × Grew l.self (progress_of l.reading) l.fresh l.fn.found l.found (map (item_of l.starts) (range_with_len 0 (64 * l.block)))

abbrev pub decreases-loop-block : goal.decreases-loop-block
decreases-loop-block l = l.blocks - l.block
