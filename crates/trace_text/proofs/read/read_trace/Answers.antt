use Rattle.trace_text.proofs.Continued.{no_first, no_first_only, bad_first, bad_first_only}
use Rattle.trace_text.proofs.read.read_trace.Goals as goal

pub returns-in-None-count_of-clause-line : goal.returns-in-None-count_of-clause-line
returns-in-None-count_of-clause-line c =
    bad_first c.args.text.now c.in-Some.line.now c.in-Some.behind.now c.in-Some.ensures.parts c.in-Some.ensures.line c.in-None-count_of.ensures.none

pub returns-in-None-count_of-clause-only : goal.returns-in-None-count_of-clause-only
returns-in-None-count_of-clause-only c = λ history t e. absurd (
    bad_first_only c.args.text.now c.in-Some.line.now c.in-Some.behind.now c.in-Some.ensures.parts c.in-Some.ensures.line c.in-None-count_of.ensures.none
    history t e)

pub returns-in-None-clause-line : goal.returns-in-None-clause-line
returns-in-None-clause-line c = no_first c.args.text.now c.in-None.ensures.none

pub returns-in-None-clause-only : goal.returns-in-None-clause-only
returns-in-None-clause-only c = λ history t e. absurd (no_first_only c.args.text.now c.in-None.ensures.none history t e)
