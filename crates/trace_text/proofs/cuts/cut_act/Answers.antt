use Rattle.trace_text.proofs.Seams.{if_none}
use Rattle.trace_text.proofs.Fronts.{act_cut, act_none_first, act_none_second, act_none_third}
use Rattle.trace_text.proofs.cuts.cut_act.Goals as goal

pub returns-in_err-action-clause-none : goal.returns-in_err-action-clause-none
returns-in_err-action-clause-none c = if_none c.from_residual.result (act_none_first c.args.text.now c.in_err-action.ensures.none)

pub returns-in_err-start-clause-none : goal.returns-in_err-start-clause-none
returns-in_err-start-clause-none c =
    if_none c.from_residual-in_err-start.result
    (act_none_second c.args.text.now c.in_ok-action.action c.in_ok-action.rest.now c.in_ok-action.ensures.some c.in_err-start.ensures.none)

pub returns-in_err-length-clause-none : goal.returns-in_err-length-clause-none
returns-in_err-length-clause-none c =
    if_none c.from_residual-in_err-length.result
    (act_none_third c.args.text.now c.in_ok-action.action c.in_ok-action.rest.now c.in_ok-action.ensures.some
    c.in_ok-start.start c.in_ok-start.rest.now c.in_ok-start.ensures.some c.in_err-length.ensures.none)

pub returns-clause-some : goal.returns-clause-some
returns-clause-some c =
    act_cut c.args.text.now c.in_ok-action.action c.in_ok-action.rest.now c.in_ok-action.ensures.some c.in_ok-start.start c.in_ok-length.length
    c.in_ok-start.rest.now c.in_ok-length.behind.now c.in_ok-start.ensures.some c.in_ok-length.ensures.some
