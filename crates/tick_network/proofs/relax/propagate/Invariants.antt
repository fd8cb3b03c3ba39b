use Rattle.std.proofs.Common.{◌≡◌, ◌+◌, ◌*◌, ◌≤◌, length, map}
use Rattle.std.specs.Prelude.{All, slice_index}
use Rattle.tick_network.specs.Nets.{KeepsRow}
use Rattle.tick_network.specs.Relaxing.{turned_row}
use Rattle.tick_network.proofs.Looks.{HasLooked}
use Rattle.tick_network.proofs.relax.propagate.Given as goal

abbrev pub invariant-loop : goal.invariant-loop
invariant-loop g l = record {
  rises : l.fn.steps ≤ l.steps;
  at_most : l.steps ≤ l.fn.steps + length l.rows * l.counter;
  looked : HasLooked (map (turned_row l.mirrored) l.rows) l.low l.fn.at l.at l.counter;
  kept : All (KeepsRow (slice_index l.fn.at)) (map (turned_row l.mirrored) l.rows) → l.counter ≡ 0;
}
