use Rattle.std.proofs.Common.{◌∙◌, ap}
use Rattle.std.specs.Prelude.{slice_index}
use Rattle.word_network.specs.Schedules.{schedule_of}
use Rattle.commit_book.proofs.Closing.{place-within, is-urgent, is-late}
use Rattle.commit_book.proofs.rule.urgent.Goals as goal

pub returns-then-start-now-clause-none : goal.returns-then-start-now-clause-none
returns-then-start-now-clause-none c = λ act u.
    is-late c.args.problem.now c.args.limits.now c.args.now c.args.commits.now c.args.word.now (schedule_of c.args.latest.now) c.requires.sound c.in-Some.place c.in-Some.ensures.some c.tick_at-start.result act
    (c.tick_at-start.ensures ∙ ap (λ ts. slice_index ts c.in-Some.place.group) c.as_slice.ensures) c.if-start-now.true u

pub end_of-end-requires-clause-there : goal.end_of-end-requires-clause-there
end_of-end-requires-clause-there c = place-within c.args.problem.now c.args.word.now c.args.commits.now c.requires.sound c.in-Some.place c.in-Some.ensures.some

pub returns-clause-some : goal.returns-clause-some
returns-clause-some c =
    is-urgent c.args.problem.now c.args.limits.now c.args.now c.args.commits.now c.args.word.now (schedule_of c.args.latest.now) c.requires.sound c.in-Some.place c.in-Some.ensures.some c.tick_at-start.result c.end_of-end.result _
    (c.tick_at-start.ensures ∙ ap (λ ts. slice_index ts c.in-Some.place.group) c.as_slice.ensures) c.if-start-now.false c.end_of-end.ensures c.saturating_sub.ensures
