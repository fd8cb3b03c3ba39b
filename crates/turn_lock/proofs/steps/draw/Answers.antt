use Rattle.std.proofs.Common.{arith}
use Rattle.turn_lock.proofs.Moves.{draws}
use Rattle.turn_lock.proofs.steps.draw.Goals as goal

pub fetch_add-requires : goal.fetch_add-requires
fetch_add-requires g c = (c.requires.lock.0, omega (arith, c.requires.lock.1), draws g.V.Story.entries g.V.Story.same_charter _ _ _ _ _ c.requires.idle c.requires.parts)
