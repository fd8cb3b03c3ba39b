use Rattle.trace_text.proofs.Seams.{empty_is, not_empty}
use Rattle.trace_text.proofs.Behind.{dispatch_none, dispatch_none_start, dispatch_none_length, dispatch_more, dispatch_read}
use Rattle.trace_text.proofs.events.dispatch_of.Goals as goal

pub returns-in_err-action : goal.returns-in_err-action
returns-in_err-action c = rw c.from_residual.ensures (dispatch_none c.args.rest.now c.in_err-action.ensures.none)

pub returns-in_err-start : goal.returns-in_err-start
returns-in_err-start c =
    rw c.from_residual-in_err-start.ensures
    (dispatch_none_start c.args.rest.now c.in_ok-action.action c.in_ok-action.rest.now c.in_ok-action.ensures.some c.in_err-start.ensures.none)

pub returns-in_err-length : goal.returns-in_err-length
returns-in_err-length c =
    rw c.from_residual-in_err-length.ensures
    (dispatch_none_length c.args.rest.now c.in_ok-action.action c.in_ok-action.rest.now c.in_ok-action.ensures.some
    c.in_ok-start.start c.in_ok-start.rest.now c.in_ok-start.ensures.some c.in_err-length.ensures.none)

pub returns-then-is_empty : goal.returns-then-is_empty
returns-then-is_empty c =
    dispatch_read c.args.rest.now c.in_ok-action.action c.in_ok-action.rest.now c.in_ok-action.ensures.some
    c.in_ok-start.start c.in_ok-start.rest.now c.in_ok-start.ensures.some c.in_ok-length.length c.in_ok-length.rest.now c.in_ok-length.ensures.some
    (empty_is c.in_ok-length.rest.now c.if-is_empty.ensures)

pub returns-else-is_empty : goal.returns-else-is_empty
returns-else-is_empty c =
    dispatch_more c.args.rest.now c.in_ok-action.action c.in_ok-action.rest.now c.in_ok-action.ensures.some
    c.in_ok-start.start c.in_ok-start.rest.now c.in_ok-start.ensures.some c.in_ok-length.length c.in_ok-length.rest.now c.in_ok-length.ensures.some
    (not_empty c.in_ok-length.rest.now c.if-is_empty.ensures)
