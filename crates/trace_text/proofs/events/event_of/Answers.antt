use Rattle.std.proofs.Common.{subst, sym, ◌∙◌, ap}
use Rattle.trace_text.specs.Reading.{GivesEvent, IsOf, NoneOf, keyword_of}
use Rattle.trace_text.proofs.Forms.{is_event, no_event, no_keyword}
use Rattle.trace_text.proofs.events.event_of.Goals as goal

pub returns-in-None-clause-none : goal.returns-in-None-clause-none
returns-in-None-clause-none c =
    no_keyword c.args.line.now (sym (ap keyword_of c.split_word.ensures.word) ∙ sym c.in-None.ensures)

pub returns-in-Some-2-clause-some : goal.returns-in-Some-2-clause-some
returns-in-Some-2-clause-some c =
    is_event c.args.line.now c.in-Some.keyword (sym (ap keyword_of c.split_word.ensures.word) ∙ sym c.in-Some.ensures) c.in-Some-2.event
    (subst (λ r. IsOf c.in-Some.keyword r c.in-Some-2.event) c.split_word.ensures.rest
    (subst (GivesEvent c.in-Some.keyword c.split_word.result.1.now) c.in-Some-2.is c.in_ok-event-in-Some.ensures))

pub returns-in-None-2-clause-none : goal.returns-in-None-2-clause-none
returns-in-None-2-clause-none c =
    no_event c.args.line.now c.in-Some.keyword (sym (ap keyword_of c.split_word.ensures.word) ∙ sym c.in-Some.ensures)
    (subst (NoneOf c.in-Some.keyword) c.split_word.ensures.rest
    (subst (GivesEvent c.in-Some.keyword c.split_word.result.1.now) c.in-None-2.is c.in_ok-event-in-Some.ensures))
