use Rattle.std.proofs.Common.{refl}
use Rattle.open_tree.proofs.Turns.{readings-turn}
use Rattle.open_tree.proofs.tree.look_turn.Goals as goal

pub returns-clause-ended : goal.returns-clause-ended
returns-clause-ended c = record {
  read = readings-turn refl c.in_ok-begin.ensures.begun.turn;
  settled = c.in_ok-begin.ensures.begun.settled;
}
