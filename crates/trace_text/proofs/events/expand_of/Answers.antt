use Rattle.std.proofs.Common.{subst, IfSome, IfNone}
use Rattle.std.specs.List.{list_all}
use Rattle.trace_text.specs.Traces.{listed, mark_text}
use Rattle.trace_text.specs.Grammar.{fits_mark}
use Rattle.trace_text.specs.Cuts.{IsRead, NoneRead}
use Rattle.trace_text.proofs.Behind.{expand_none, expand_none_marks, expand_read}
use Rattle.trace_text.proofs.events.expand_of.Goals as goal

pub returns-in-None : goal.returns-in-None
returns-in-None c = expand_none c.args.rest.now c.in-None.ensures.none

pub returns-in-None-2 : goal.returns-in-None-2
returns-in-None-2 c =
    expand_none_marks c.args.rest.now (c.in-Some.actor, c.in-Some.id) c.in-Some.rest.now c.in-Some.ensures.some
    (subst (λ o. IfNone o (NoneRead (listed mark_text) (list_all fits_mark) c.in-Some.rest.now)) c.in-None-2.is c.in_ok-marks-in-Some.ensures.none)

pub returns-in-Some-2 : goal.returns-in-Some-2
returns-in-Some-2 c =
    expand_read c.args.rest.now (c.in-Some.actor, c.in-Some.id) c.in-Some.rest.now c.in-Some.ensures.some c.in-Some-2.marks
    (subst (λ o. IfSome o (IsRead (listed mark_text) (list_all fits_mark) c.in-Some.rest.now)) c.in-Some-2.is c.in_ok-marks-in-Some.ensures.some)
