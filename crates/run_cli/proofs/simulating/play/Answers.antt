use Rattle.std.proofs.Common.{subst, List}
use Rattle.tp_spec.specs.declared.event.Event.{Event}
use Rattle.tp_spec.specs.declared.problem.Problem.{Problem}
use Rattle.run_cli.specs.Outcomes.{GivesEnd}
use Rattle.run_cli.proofs.Played.{play-ends}
use Rattle.run_cli.proofs.simulating.play.Goals as goal

pub returns-in-Ok-clause-ends : goal.returns-in-Ok-clause-ends
returns-in-Ok-clause-ends g c =
    let p : Problem = c.args.problem.now in
    let h : List Event = c.in-Ok.played.history.items in
    let s = g.O.Sink.view c.args.out.now in
    let t = g.O.Sink.view c.run_script.new.out in
    let u = g.O.Sink.view c.print_end-status.new.out in
    let end = subst (λ (k : List Event). GivesEnd p k c.in-Ok.played.sent t u c.print_end-status.result) c.deref.ensures.value c.print_end-status.ensures in
    play-ends p c.args.limits c.args.script.now h c.in-Ok.ensures.whole c.in-Ok.ensures.follows s t (c.commands_of_history.ensures p c.args.limits h)
    (c.commitments_of_runs.ensures.grow p c.args.limits c.requires.formed) c.in-Ok.played.sent u c.print_end-status.result c.in-Ok.ensures.ends c.in-Ok.ensures.commands end
