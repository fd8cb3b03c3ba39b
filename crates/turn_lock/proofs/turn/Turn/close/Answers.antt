use Rattle.std.proofs.Common.{◌∙◌, ap}
use Rattle.turn_lock.proofs.Shares.{closes_with, closes_full}
use Rattle.turn_lock.proofs.turn.Turn.close.Goals as goal

pub unreachable-requires : goal.unreachable-requires
unreachable-requires g c =
    closes_full g.V.Story.entries g.V.Story.same_charter _ _ _ _ _ (ap (λ p. p.me.0) c.take_apart-place.ensures.1) _ _ _ c.requires.seat.idle (c.requires.seat.parts ∙ c.requires.all) c.close_with-closed.ensures.values.2 c.take-slot.ensures.value c.in_default.is

pub returns-clause-longer : goal.returns-clause-longer
returns-clause-longer g c =
    (closes_with g.V.Story.entries g.V.Story.same_charter _ _ _ _ _ (ap (λ p. p.me.0) c.take_apart-place.ensures.1) _ _ _ _ c.requires.seat.idle (c.requires.seat.parts ∙ c.requires.all) c.close_with-closed.ensures.values.2 c.take-slot.ensures.value c.in-Some.is).longer

pub returns-clause-charter : goal.returns-clause-charter
returns-clause-charter g c =
    (closes_with g.V.Story.entries g.V.Story.same_charter _ _ _ _ _ (ap (λ p. p.me.0) c.take_apart-place.ensures.1) _ _ _ _ c.requires.seat.idle (c.requires.seat.parts ∙ c.requires.all) c.close_with-closed.ensures.values.2 c.take-slot.ensures.value c.in-Some.is).charter

pub returns-clause-turns : goal.returns-clause-turns
returns-clause-turns g c =
    (closes_with g.V.Story.entries g.V.Story.same_charter _ _ _ _ _ (ap (λ p. p.me.0) c.take_apart-place.ensures.1) _ _ _ _ c.requires.seat.idle (c.requires.seat.parts ∙ c.requires.all) c.close_with-closed.ensures.values.2 c.take-slot.ensures.value c.in-Some.is).turns
