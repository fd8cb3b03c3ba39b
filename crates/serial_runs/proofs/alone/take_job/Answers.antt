use Rattle.std.proofs.Common.{ap, length, Ok, Err, subst, sym, ◌∙◌}
use Rattle.open_tree.specs.declared.job.Taken.TheVariants as taken
use Rattle.serial_runs.specs.OneWorker.{HasSearched}
use Rattle.serial_runs.specs.Stopping.{PutsOn}
use Rattle.serial_runs.proofs.Turns.{err-of, answer-err, take-before, take-puts, take-fault, take-job, take-over, take-nothing, take-refused}
use Rattle.serial_runs.proofs.alone.take_job.Goals as goal

pub send_new-requires : goal.send_new-requires
send_new-requires g c = record { sent = take-before c.args.problem.now c.args.tree.now c.take-taken.new.self c.take-taken.ensures.charter c.requires.problem c.take-taken.ensures.whole (length c.commits-sent.result.now) (ap length c.commits-sent.ensures.acts) c.requires.searching (g.C.Clock.last c.take-taken.new.self.clock) c.take-taken.result (c.take-taken.ensures.taken c.requires.searching.standing) c.take-taken.ensures.err }

pub returns-in_err-send_new-clause-err : goal.returns-in_err-send_new-clause-err
returns-in_err-send_new-clause-err g c = err-of (λ fault. HasSearched c.args.tree.now.limits c.send_new.new.tree.history (Err fault)) c.from_residual.result c.in_err-send_new.field-0.0 c.from_residual.ensures
    (take-fault c.args.problem.now c.args.tree.now c.take-taken.new.self c.take-taken.ensures.charter c.requires.problem c.take-taken.ensures.whole (length c.commits-sent.result.now) (ap length c.commits-sent.ensures.acts) c.requires.searching (g.C.Clock.last c.take-taken.new.self.clock) c.take-taken.result (c.take-taken.ensures.taken c.requires.searching.standing) c.take-taken.ensures.err
    c.send_new.new.tree.history (g.O.Sink.view c.args.out.now) (g.O.Sink.view c.send_new.new.out) c.in_err-send_new.field-0.0 c.in_err-send_new.ensures.stops c.in_err-send_new.ensures.puts)

pub returns-in_err-send_new-clause-puts : goal.returns-in_err-send_new-clause-puts
returns-in_err-send_new-clause-puts g c = answer-err (λ answer. PutsOn c.args.problem.now c.args.tree.now.limits c.args.tree.now.history c.send_new.new.tree.history (g.O.Sink.view c.args.out.now) (g.O.Sink.view c.send_new.new.out) answer) c.from_residual.result c.in_err-send_new.field-0.0 c.from_residual.ensures
    (take-puts c.args.problem.now c.args.tree.now c.take-taken.new.self c.take-taken.ensures.charter c.requires.problem c.take-taken.ensures.whole (length c.commits-sent.result.now) (ap length c.commits-sent.ensures.acts) c.requires.searching (g.C.Clock.last c.take-taken.new.self.clock) c.take-taken.result (c.take-taken.ensures.taken c.requires.searching.standing) c.take-taken.ensures.err
    c.send_new.new.tree.history (g.O.Sink.view c.args.out.now) (g.O.Sink.view c.send_new.new.out) (Err c.in_err-send_new.field-0.0) c.in_err-send_new.ensures.stops c.in_err-send_new.ensures.puts)

pub unreachable-requires : goal.unreachable-requires
unreachable-requires g c = take-nothing c.args.problem.now c.args.tree.now c.take-taken.new.self c.take-taken.ensures.charter c.requires.problem c.take-taken.ensures.whole (length c.commits-sent.result.now) (ap length c.commits-sent.ensures.acts) c.requires.searching (g.C.Clock.last c.take-taken.new.self.clock) c.take-taken.result (c.take-taken.ensures.taken c.requires.searching.standing) c.take-taken.ensures.err
    (c.in-Ok-Nothing.is ∙ ap Ok c.in-Ok-Nothing.field-0-is)

pub returns-in-Ok-Job-clause-took : goal.returns-in-Ok-Job-clause-took
returns-in-Ok-Job-clause-took g c = take-job c.args.problem.now c.args.tree.now c.take-taken.new.self c.take-taken.ensures.charter c.requires.problem c.take-taken.ensures.whole (length c.commits-sent.result.now) (ap length c.commits-sent.ensures.acts) c.requires.searching (g.C.Clock.last c.take-taken.new.self.clock) c.take-taken.result (c.take-taken.ensures.taken c.requires.searching.standing) c.take-taken.ensures.err
    c.send_new.new.tree.history c.in-Ok-Job.job (c.in-Ok-Job.is ∙ ap Ok c.in-Ok-Job.field-0-is) c.in_ok-send_new.ensures.stops

pub returns-in-Ok-Over-clause-took : goal.returns-in-Ok-Over-clause-took
returns-in-Ok-Over-clause-took g c = take-over c.args.problem.now c.args.tree.now c.take-taken.new.self c.take-taken.ensures.charter c.requires.problem c.take-taken.ensures.whole (length c.commits-sent.result.now) (ap length c.commits-sent.ensures.acts) c.requires.searching (g.C.Clock.last c.take-taken.new.self.clock) c.take-taken.result (c.take-taken.ensures.taken c.requires.searching.standing) c.take-taken.ensures.err
    c.send_new.new.tree.history (c.in-Ok-Over.is ∙ ap Ok c.in-Ok-Over.field-0-is) c.in_ok-send_new.ensures.stops

pub returns-in-Err-clause-took : goal.returns-in-Err-clause-took
returns-in-Err-clause-took g c = take-refused c.args.problem.now c.args.tree.now c.take-taken.new.self c.take-taken.ensures.charter c.requires.problem c.take-taken.ensures.whole (length c.commits-sent.result.now) (ap length c.commits-sent.ensures.acts) c.requires.searching (g.C.Clock.last c.take-taken.new.self.clock) c.take-taken.result (c.take-taken.ensures.taken c.requires.searching.standing) c.take-taken.ensures.err
    c.send_new.new.tree.history c.in-Err.field-0 c.in-Err.is c.in_ok-send_new.ensures.stops

pub returns-in-Ok-Job-clause-puts : goal.returns-in-Ok-Job-clause-puts
returns-in-Ok-Job-clause-puts g c = take-puts c.args.problem.now c.args.tree.now c.take-taken.new.self c.take-taken.ensures.charter c.requires.problem c.take-taken.ensures.whole (length c.commits-sent.result.now) (ap length c.commits-sent.ensures.acts) c.requires.searching (g.C.Clock.last c.take-taken.new.self.clock) c.take-taken.result (c.take-taken.ensures.taken c.requires.searching.standing) c.take-taken.ensures.err
    c.send_new.new.tree.history (g.O.Sink.view c.args.out.now) (g.O.Sink.view c.send_new.new.out) (Ok tt) c.in_ok-send_new.ensures.stops c.in_ok-send_new.ensures.puts

pub returns-in-Ok-Over-clause-puts : goal.returns-in-Ok-Over-clause-puts
returns-in-Ok-Over-clause-puts g c = take-puts c.args.problem.now c.args.tree.now c.take-taken.new.self c.take-taken.ensures.charter c.requires.problem c.take-taken.ensures.whole (length c.commits-sent.result.now) (ap length c.commits-sent.ensures.acts) c.requires.searching (g.C.Clock.last c.take-taken.new.self.clock) c.take-taken.result (c.take-taken.ensures.taken c.requires.searching.standing) c.take-taken.ensures.err
    c.send_new.new.tree.history (g.O.Sink.view c.args.out.now) (g.O.Sink.view c.send_new.new.out) (Ok tt) c.in_ok-send_new.ensures.stops c.in_ok-send_new.ensures.puts

pub returns-in-Err-clause-puts : goal.returns-in-Err-clause-puts
returns-in-Err-clause-puts g c = take-puts c.args.problem.now c.args.tree.now c.take-taken.new.self c.take-taken.ensures.charter c.requires.problem c.take-taken.ensures.whole (length c.commits-sent.result.now) (ap length c.commits-sent.ensures.acts) c.requires.searching (g.C.Clock.last c.take-taken.new.self.clock) c.take-taken.result (c.take-taken.ensures.taken c.requires.searching.standing) c.take-taken.ensures.err
    c.send_new.new.tree.history (g.O.Sink.view c.args.out.now) (g.O.Sink.view c.send_new.new.out) (Ok tt) c.in_ok-send_new.ensures.stops c.in_ok-send_new.ensures.puts
