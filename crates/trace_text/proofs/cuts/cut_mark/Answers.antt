use Rattle.trace_text.proofs.Seams.{if_none}
use Rattle.trace_text.proofs.Fronts.{mark_cut, mark_none_empty, mark_none_space, mark_none_short, mark_none_sign, mark_none_item}
use Rattle.trace_text.proofs.cuts.cut_mark.Goals as goal

pub returns-in_err-space-clause-none : goal.returns-in_err-space-clause-none
returns-in_err-space-clause-none c = if_none c.from_residual.result (mark_none_empty c.args.text.now c.in_err-space.ensures.none)

pub returns-then-space-ne32-clause-none : goal.returns-then-space-ne32-clause-none
returns-then-space-ne32-clause-none c =
    mark_none_space c.args.text.now c.in_ok-space.rest.now c.in_ok-space.space c.in_ok-space.ensures.some c.if-space-ne32.true

pub returns-in_err-sign-clause-none : goal.returns-in_err-sign-clause-none
returns-in_err-sign-clause-none c =
    if_none c.from_residual-in_err-sign.result
    (mark_none_short c.args.text.now c.in_ok-space.rest.now c.in_ok-space.space c.in_ok-space.ensures.some c.in_err-sign.ensures.none)

pub returns-in_err-fresh-clause-none : goal.returns-in_err-fresh-clause-none
returns-in_err-fresh-clause-none c =
    if_none c.from_residual-in_err-fresh.result
    (mark_none_sign c.args.text.now c.in_ok-space.rest.now c.in_ok-space.space c.in_ok-space.ensures.some
    c.in_ok-sign.rest.now c.in_ok-sign.sign c.in_ok-sign.ensures.some c.in_err-fresh.ensures.none)

pub returns-in_err-item-clause-none : goal.returns-in_err-item-clause-none
returns-in_err-item-clause-none c =
    if_none c.from_residual-in_err-item.result
    (mark_none_item c.args.text.now c.in_ok-space.rest.now c.in_ok-space.space c.in_ok-space.ensures.some
    c.in_ok-sign.rest.now c.in_ok-sign.sign c.in_ok-sign.ensures.some c.in_err-item.ensures.none)

pub returns-clause-some : goal.returns-clause-some
returns-clause-some c =
    mark_cut c.args.text.now c.in_ok-space.rest.now c.in_ok-space.space c.in_ok-space.ensures.some
    c.in_ok-sign.rest.now c.in_ok-sign.sign c.in_ok-sign.ensures.some c.in_ok-fresh.fresh c.in_ok-item.item c.in_ok-item.behind.now
    c.if-space-ne32.false c.in_ok-fresh.ensures.some c.in_ok-item.ensures.some
