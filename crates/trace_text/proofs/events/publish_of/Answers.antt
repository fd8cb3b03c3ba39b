use Rattle.std.proofs.Common.{subst, IfSome, IfNone}
use Rattle.std.specs.List.{list_all}
use Rattle.trace_text.specs.Traces.{listed, act_text}
use Rattle.trace_text.specs.Grammar.{fits_act}
use Rattle.trace_text.specs.Cuts.{IsRead, NoneRead}
use Rattle.trace_text.proofs.Behind.{publish_none, publish_none_end, publish_none_acts, publish_read}
use Rattle.trace_text.proofs.events.publish_of.Goals as goal

pub returns-in-None : goal.returns-in-None
returns-in-None c = publish_none c.args.rest.now c.in-None.ensures.none

pub returns-in-None-cut_wide : goal.returns-in-None-cut_wide
returns-in-None-cut_wide c =
    publish_none_end c.args.rest.now (c.in-Some.actor, c.in-Some.id) c.in-Some.rest.now c.in-Some.ensures.some c.in-None-cut_wide.ensures.none

pub returns-in-None-2 : goal.returns-in-None-2
returns-in-None-2 c =
    publish_none_acts c.args.rest.now (c.in-Some.actor, c.in-Some.id) c.in-Some.rest.now c.in-Some.ensures.some
    c.in-Some-cut_wide.end c.in-Some-cut_wide.rest.now c.in-Some-cut_wide.ensures.some
    (subst (λ o. IfNone o (NoneRead (listed act_text) (list_all fits_act) c.in-Some-cut_wide.rest.now)) c.in-None-2.is c.in_ok-acts-in-Some-cut_wide.ensures.none)

pub returns-in-Some-2 : goal.returns-in-Some-2
returns-in-Some-2 c =
    publish_read c.args.rest.now (c.in-Some.actor, c.in-Some.id) c.in-Some.rest.now c.in-Some.ensures.some
    c.in-Some-cut_wide.end c.in-Some-cut_wide.rest.now c.in-Some-cut_wide.ensures.some c.in-Some-2.acts
    (subst (λ o. IfSome o (IsRead (listed act_text) (list_all fits_act) c.in-Some-cut_wide.rest.now)) c.in-Some-2.is c.in_ok-acts-in-Some-cut_wide.ensures.some)
