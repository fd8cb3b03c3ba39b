use Rattle.std.proofs.Common.{subst, sym}
use Rattle.trace_text.specs.Traces.{act_text}
use Rattle.trace_text.specs.Grammar.{fits_act}
use Rattle.trace_text.proofs.Seams.{empty_is, not_empty}
use Rattle.trace_text.proofs.Listing.{Listed, none_yet, one_more, all_listed, not_listed}
use Rattle.trace_text.proofs.rows.acts_of.Goals as goal

pub acts-init : goal.acts-init
acts-init c = subst (λ xs. Listed act_text fits_act c.args.text.now xs c.args.text.now) (sym c.new-acts.ensures) (none_yet act_text fits_act c.args.text.now)

pub returns-then-is_empty-clause-some : goal.returns-then-is_empty-clause-some
returns-then-is_empty-clause-some c =
    all_listed act_text fits_act c.args.text.now c.acts.acts c.acts.rest.now c.acts.invariant (empty_is c.acts.rest.now c.if-is_empty.ensures)

pub acts-preserved : goal.acts-preserved
acts-preserved c =
    rw c.in_ok-push-in-Some.ensures.ok
    (one_more act_text fits_act c.args.text.now c.acts.acts c.acts.rest.now c.acts.invariant c.in-Some.act c.in-Some.behind.now c.in-Some.ensures.some)

pub returns-in-None-clause-none : goal.returns-in-None-clause-none
returns-in-None-clause-none c =
    not_listed act_text fits_act c.args.text.now c.acts.acts c.acts.rest.now c.acts.invariant c.in-None.ensures.none (not_empty c.acts.rest.now c.if-is_empty.ensures)
