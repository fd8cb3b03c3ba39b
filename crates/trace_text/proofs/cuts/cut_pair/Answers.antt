use Rattle.trace_text.specs.Traces.{field}
use Rattle.trace_text.specs.Grammar.{is_narrow}
use Rattle.trace_text.proofs.Seams.{if_none, both_cut, none_first, none_second}
use Rattle.trace_text.proofs.Fronts.{field_opens}
use Rattle.trace_text.proofs.cuts.cut_pair.Goals as goal

pub returns-in_err-first-clause-none : goal.returns-in_err-first-clause-none
returns-in_err-first-clause-none c =
    if_none c.from_residual.result (none_first field is_narrow field is_narrow c.args.text.now field_opens c.in_err-first.ensures.none)

pub returns-in_err-second-clause-none : goal.returns-in_err-second-clause-none
returns-in_err-second-clause-none c =
    if_none c.from_residual-in_err-second.result
    (none_second field is_narrow field is_narrow c.args.text.now c.in_ok-first.first c.in_ok-first.rest.now field_opens c.in_ok-first.ensures.some c.in_err-second.ensures.none)

pub returns-clause-some : goal.returns-clause-some
returns-clause-some c =
    both_cut field is_narrow field is_narrow c.args.text.now c.in_ok-first.first c.in_ok-second.second c.in_ok-first.rest.now c.in_ok-second.behind.now
    field_opens c.in_ok-first.ensures.some c.in_ok-second.ensures.some
