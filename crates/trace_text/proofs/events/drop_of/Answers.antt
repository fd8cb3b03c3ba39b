use Rattle.trace_text.proofs.Seams.{empty_is, not_empty}
use Rattle.trace_text.proofs.Behind.{drop_none, drop_more, drop_read}
use Rattle.trace_text.proofs.events.drop_of.Goals as goal

pub returns-in_err-id : goal.returns-in_err-id
returns-in_err-id c = rw c.from_residual.ensures (drop_none c.args.rest.now c.in_err-id.ensures.none)

pub returns-then-is_empty : goal.returns-then-is_empty
returns-then-is_empty c =
    drop_read c.args.rest.now c.in_ok-id.id c.in_ok-id.rest.now c.in_ok-id.ensures.some (empty_is c.in_ok-id.rest.now c.if-is_empty.ensures)

pub returns-else-is_empty : goal.returns-else-is_empty
returns-else-is_empty c =
    drop_more c.args.rest.now c.in_ok-id.id c.in_ok-id.rest.now c.in_ok-id.ensures.some (not_empty c.in_ok-id.rest.now c.if-is_empty.ensures)
