use Rattle.std.proofs.Common.{arith}
use Rattle.turn_lock.proofs.Shares.{splits}
use Rattle.turn_lock.proofs.seats.cut.Goals as goal

pub split_seat-requires : goal.split_seat-requires
split_seat-requires g c = (
  c.requires.lock.0,
  omega (arith, c.requires.lock.1),
  splits g.V.Story.entries g.V.Story.same_charter _ _ _ g.A.Amount.amount _ c.requires.idle (omega (arith, c.requires.parts.0, c.requires.parts.2)) (omega (arith, c.requires.parts.1, c.requires.parts.2)),
)
