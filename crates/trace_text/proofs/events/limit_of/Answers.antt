use Rattle.trace_text.proofs.Seams.{empty_is, not_empty}
use Rattle.trace_text.proofs.Behind.{limit_none, limit_none_second, limit_more, limit_read}
use Rattle.trace_text.proofs.events.limit_of.Goals as goal

pub returns-in_err-actor : goal.returns-in_err-actor
returns-in_err-actor c = rw c.from_residual.ensures (limit_none c.args.rest.now c.in_err-actor.ensures.none)

pub returns-in_err-made : goal.returns-in_err-made
returns-in_err-made c =
    rw c.from_residual-in_err-made.ensures
    (limit_none_second c.args.rest.now (c.in_ok-actor.actor, c.in_ok-actor.id) c.in_ok-actor.rest.now c.in_ok-actor.ensures.some c.in_err-made.ensures.none)

pub returns-then-is_empty : goal.returns-then-is_empty
returns-then-is_empty c =
    limit_read c.args.rest.now (c.in_ok-actor.actor, c.in_ok-actor.id) c.in_ok-actor.rest.now c.in_ok-actor.ensures.some
    (c.in_ok-made.made, c.in_ok-made.marks) c.in_ok-made.rest.now c.in_ok-made.ensures.some (empty_is c.in_ok-made.rest.now c.if-is_empty.ensures)

pub returns-else-is_empty : goal.returns-else-is_empty
returns-else-is_empty c =
    limit_more c.args.rest.now (c.in_ok-actor.actor, c.in_ok-actor.id) c.in_ok-actor.rest.now c.in_ok-actor.ensures.some
    (c.in_ok-made.made, c.in_ok-made.marks) c.in_ok-made.rest.now c.in_ok-made.ensures.some (not_empty c.in_ok-made.rest.now c.if-is_empty.ensures)
