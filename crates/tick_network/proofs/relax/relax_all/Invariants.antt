use Rattle.std.proofs.Common.{◌≡◌, ◌+◌, take, map}
use Rattle.tick_network.specs.Relaxing.{turned_row}
use Rattle.tick_network.proofs.Looks.{HasSeen}
use Rattle.tick_network.proofs.relax.relax_all.Given as goal

abbrev pub invariant-loop-row : goal.invariant-loop-row
invariant-loop-row g l = record {
  steps : l.steps ≡ l.fn.steps + l.row-index;
  seen : HasSeen (map (turned_row l.mirrored) l.rows) (take l.row-index (map (turned_row l.mirrored) l.rows)) l.low l.fn.at l.at l.lowered;
}
