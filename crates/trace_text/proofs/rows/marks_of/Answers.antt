use Rattle.std.proofs.Common.{subst, sym}
use Rattle.trace_text.specs.Traces.{mark_text}
use Rattle.trace_text.specs.Grammar.{fits_mark}
use Rattle.trace_text.proofs.Seams.{empty_is, not_empty}
use Rattle.trace_text.proofs.Listing.{Listed, none_yet, one_more, all_listed, not_listed}
use Rattle.trace_text.proofs.rows.marks_of.Goals as goal

pub marks-init : goal.marks-init
marks-init c = subst (λ xs. Listed mark_text fits_mark c.args.text.now xs c.args.text.now) (sym c.new-marks.ensures) (none_yet mark_text fits_mark c.args.text.now)

pub returns-then-is_empty-clause-some : goal.returns-then-is_empty-clause-some
returns-then-is_empty-clause-some c =
    all_listed mark_text fits_mark c.args.text.now c.marks.marks c.marks.rest.now c.marks.invariant (empty_is c.marks.rest.now c.if-is_empty.ensures)

pub marks-preserved : goal.marks-preserved
marks-preserved c =
    rw c.in_ok-push-in-Some.ensures.ok
    (one_more mark_text fits_mark c.args.text.now c.marks.marks c.marks.rest.now c.marks.invariant c.in-Some.mark c.in-Some.behind.now c.in-Some.ensures.some)

pub returns-in-None-clause-none : goal.returns-in-None-clause-none
returns-in-None-clause-none c =
    not_listed mark_text fits_mark c.args.text.now c.marks.marks c.marks.rest.now c.marks.invariant c.in-None.ensures.none (not_empty c.marks.rest.now c.if-is_empty.ensures)
