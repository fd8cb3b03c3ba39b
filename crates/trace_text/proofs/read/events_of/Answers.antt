use Rattle.std.proofs.Common.{inl, inr, subst, IfSome, IfNone}
use Rattle.trace_text.specs.Traces.{event_line}
use Rattle.trace_text.specs.Grammar.{fits_event}
use Rattle.trace_text.specs.Cuts.{IsRead, NoneRead}
use Rattle.trace_text.proofs.Continued.{one_more, one_less, counted_more, few_more, refused_there, refused_only, ended_there, ended_only, read_whole, read_only}
use Rattle.trace_text.proofs.read.events_of.Goals as goal

pub returns-then-left-eq0-clause-line : goal.returns-then-left-eq0-clause-line
returns-then-left-eq0-clause-line c =
    refused_there c.args.text.now c.args.count c.args.behind.now c.requires.first c.lines.left c.lines.events c.lines.rest.now c.lines.invariant.goes
    c.in-Some.line.now c.in-Some.back.now c.in-Some.ensures.parts c.in-Some.ensures.line (inl c.if-left-eq0.true) c.lines.number c.lines.invariant.counted

pub returns-then-left-eq0-clause-only : goal.returns-then-left-eq0-clause-only
returns-then-left-eq0-clause-only c = λ history t e. absurd (
    refused_only c.args.text.now c.args.count c.args.behind.now c.requires.first c.lines.left c.lines.events c.lines.rest.now c.lines.invariant.goes
    c.in-Some.line.now c.in-Some.back.now c.in-Some.ensures.parts c.in-Some.ensures.line (inl c.if-left-eq0.true) history t e)

pub returns-in-None-2-clause-line : goal.returns-in-None-2-clause-line
returns-in-None-2-clause-line c =
    refused_there c.args.text.now c.args.count c.args.behind.now c.requires.first c.lines.left c.lines.events c.lines.rest.now c.lines.invariant.goes
    c.in-Some.line.now c.in-Some.back.now c.in-Some.ensures.parts c.in-Some.ensures.line
    (inr (subst (λ o. IfNone o (NoneRead event_line fits_event c.in-Some.line.now)) c.in-None-2.is c.in_ok-event-in-Some.ensures.none))
    c.lines.number c.lines.invariant.counted

pub returns-in-None-2-clause-only : goal.returns-in-None-2-clause-only
returns-in-None-2-clause-only c = λ history t e. absurd (
    refused_only c.args.text.now c.args.count c.args.behind.now c.requires.first c.lines.left c.lines.events c.lines.rest.now c.lines.invariant.goes
    c.in-Some.line.now c.in-Some.back.now c.in-Some.ensures.parts c.in-Some.ensures.line
    (inr (subst (λ o. IfNone o (NoneRead event_line fits_event c.in-Some.line.now)) c.in-None-2.is c.in_ok-event-in-Some.ensures.none))
    history t e)

pub lines-preserved : goal.lines-preserved
lines-preserved c =
    rw c.in_ok-push-in-Some-2.ensures.ok
    (record {
      goes =
          one_more c.args.text.now c.args.count c.args.behind.now c.requires.first c.lines.left c.lines.events c.lines.rest.now c.lines.invariant.goes
          c.in-Some.line.now c.in-Some.back.now c.in-Some-2.event _ c.in-Some.ensures.parts
          (subst (λ o. IfSome o (IsRead event_line fits_event c.in-Some.line.now)) c.in-Some-2.is c.in_ok-event-in-Some.ensures.some)
          (one_less c.lines.left c.if-left-eq0.false);
      counted = counted_more c.lines.events c.in-Some-2.event c.lines.number c.lines.invariant.counted;
      few = few_more c.lines.number _ c.lines.rest.now c.in-Some.line.now c.in-Some.back.now c.in-Some.ensures.parts c.lines.invariant.few;
    })

pub returns-then-is_end-clause-reads : goal.returns-then-is_end-clause-reads
returns-then-is_end-clause-reads c =
    let end = c.is_end.ensures.yes c.if-is_end.true in
    read_whole c.args.text.now c.args.count c.args.behind.now c.requires.first c.lines.left c.lines.events c.lines.rest.now c.lines.invariant.goes end.0 end.1

pub returns-then-is_end-clause-only : goal.returns-then-is_end-clause-only
returns-then-is_end-clause-only c = λ history t e.
    read_only c.args.text.now c.args.count c.args.behind.now c.requires.first c.lines.left c.lines.events c.lines.rest.now c.lines.invariant.goes
    c.in-None.ensures.none history t e

pub returns-in-None-clause-line : goal.returns-in-None-clause-line
returns-in-None-clause-line c =
    ended_there c.args.text.now c.args.count c.args.behind.now c.requires.first c.lines.left c.lines.events c.lines.rest.now c.lines.invariant.goes
    c.in-None.ensures.none c.lines.number c.lines.invariant.counted

pub returns-in-None-clause-only : goal.returns-in-None-clause-only
returns-in-None-clause-only c = λ history t e. absurd (
    ended_only c.args.text.now c.args.count c.args.behind.now c.requires.first c.lines.left c.lines.events c.lines.rest.now c.lines.invariant.goes
    c.in-None.ensures.none (c.is_end.ensures.no c.if-is_end.false) history t e)
