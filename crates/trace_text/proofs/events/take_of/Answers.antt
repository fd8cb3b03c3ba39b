use Rattle.trace_text.proofs.Seams.{empty_is, not_empty}
use Rattle.trace_text.proofs.Behind.{take_none, take_more, take_read}
use Rattle.trace_text.proofs.events.take_of.Goals as goal

pub returns-in_err-actor : goal.returns-in_err-actor
returns-in_err-actor c = rw c.from_residual.ensures (take_none c.args.rest.now c.in_err-actor.ensures.none)

pub returns-then-is_empty : goal.returns-then-is_empty
returns-then-is_empty c =
    take_read c.args.rest.now (c.in_ok-actor.actor, c.in_ok-actor.id) c.in_ok-actor.rest.now c.in_ok-actor.ensures.some
    (empty_is c.in_ok-actor.rest.now c.if-is_empty.ensures)

pub returns-else-is_empty : goal.returns-else-is_empty
returns-else-is_empty c =
    take_more c.args.rest.now (c.in_ok-actor.actor, c.in_ok-actor.id) c.in_ok-actor.rest.now c.in_ok-actor.ensures.some
    (not_empty c.in_ok-actor.rest.now c.if-is_empty.ensures)
