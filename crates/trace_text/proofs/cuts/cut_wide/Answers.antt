use Rattle.trace_text.proofs.Seams.{if_none}
use Rattle.trace_text.proofs.Fronts.{wide_cut, wide_none}
use Rattle.trace_text.proofs.cuts.cut_wide.Goals as goal

pub returns-in_err-number-clause-none : goal.returns-in_err-number-clause-none
returns-in_err-number-clause-none c = if_none c.from_residual.result (wide_none c.args.text.now c.in_err-number.ensures.none)

pub returns-clause-some : goal.returns-clause-some
returns-clause-some c = wide_cut c.args.text.now c.in_ok-number.number c.in_ok-number.behind.now c.in_ok-number.ensures.some
