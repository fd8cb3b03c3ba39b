use Rattle.trace_text.proofs.Seams.{empty_is, not_empty}
use Rattle.trace_text.proofs.Behind.{tick_none, tick_none_second, tick_more, tick_read}
use Rattle.trace_text.proofs.events.tick_of.Goals as goal

pub returns-in_err-actor : goal.returns-in_err-actor
returns-in_err-actor c = rw c.from_residual.ensures (tick_none c.args.rest.now c.in_err-actor.ensures.none)

pub returns-in_err-reading : goal.returns-in_err-reading
returns-in_err-reading c =
    rw c.from_residual-in_err-reading.ensures
    (tick_none_second c.args.rest.now c.in_ok-actor.actor c.in_ok-actor.rest.now c.in_ok-actor.ensures.some c.in_err-reading.ensures.none)

pub returns-then-is_empty : goal.returns-then-is_empty
returns-then-is_empty c =
    tick_read c.args.rest.now c.in_ok-actor.actor c.in_ok-actor.rest.now c.in_ok-actor.ensures.some
    c.in_ok-reading.reading c.in_ok-reading.rest.now c.in_ok-reading.ensures.some (empty_is c.in_ok-reading.rest.now c.if-is_empty.ensures)

pub returns-else-is_empty : goal.returns-else-is_empty
returns-else-is_empty c =
    tick_more c.args.rest.now c.in_ok-actor.actor c.in_ok-actor.rest.now c.in_ok-actor.ensures.some
    c.in_ok-reading.reading c.in_ok-reading.rest.now c.in_ok-reading.ensures.some (not_empty c.in_ok-reading.rest.now c.if-is_empty.ensures)
