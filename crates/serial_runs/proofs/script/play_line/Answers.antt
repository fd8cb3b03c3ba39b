use Rattle.std.proofs.Common.{ap, length, Ok, Err, IfOk, subst}
use Rattle.serial_runs.specs.Playing.{GoesOnBehind, StopsUnput, id_of}
use Rattle.serial_runs.specs.Stopping.{PutsOn}
use Rattle.serial_runs.proofs.Turns.{err-of, answer-err}
use Rattle.serial_runs.proofs.LineByLine.{line-before, line-puts, line-fault}
use Rattle.serial_runs.proofs.script.play_line.Goals as goal

pub send_new-requires : goal.send_new-requires
send_new-requires g c = record {
  sent = line-before c.args.problem.now c.args.tree.now c.turn_line-turn.new.tree c.turn_line-turn.ensures.charter (length c.commits-sent.result.now) (ap length c.commits-sent.ensures.acts) c.args.line.now c.args.held (g.C.Clock.last c.turn_line-turn.new.tree.clock) c.turn_line-turn.result
      (subst (λ p. IfOk c.turn_line-turn.result (GoesOnBehind p c.args.tree.now.limits c.args.line.now (g.C.Clock.last c.turn_line-turn.new.tree.clock) c.args.tree.now.history c.turn_line-turn.new.tree.history c.args.held)) c.requires.worker c.turn_line-turn.ensures.on) c.turn_line-turn.ensures.over;
}

pub returns-in_err-send_new-clause-err : goal.returns-in_err-send_new-clause-err
returns-in_err-send_new-clause-err g c = err-of (StopsUnput c.args.tree.now.limits c.args.line.now (id_of c.args.held) c.args.tree.now.history c.send_new.new.tree.history) c.from_residual.result c.in_err-send_new.field-0.0 c.from_residual.ensures
    (line-fault c.args.problem.now c.args.tree.now c.turn_line-turn.new.tree c.turn_line-turn.ensures.charter (length c.commits-sent.result.now) (ap length c.commits-sent.ensures.acts) c.args.line.now c.args.held (g.C.Clock.last c.turn_line-turn.new.tree.clock) c.turn_line-turn.result
    (subst (λ p. IfOk c.turn_line-turn.result (GoesOnBehind p c.args.tree.now.limits c.args.line.now (g.C.Clock.last c.turn_line-turn.new.tree.clock) c.args.tree.now.history c.turn_line-turn.new.tree.history c.args.held)) c.requires.worker c.turn_line-turn.ensures.on) c.turn_line-turn.ensures.over
    c.send_new.new.tree.history (g.O.Sink.view c.args.out.now) (g.O.Sink.view c.send_new.new.out) c.in_err-send_new.field-0.0 c.in_err-send_new.ensures.stops c.in_err-send_new.ensures.puts)

pub returns-in_err-send_new-clause-puts : goal.returns-in_err-send_new-clause-puts
returns-in_err-send_new-clause-puts g c = answer-err (λ answer. PutsOn c.args.problem.now c.args.tree.now.limits c.args.tree.now.history c.send_new.new.tree.history (g.O.Sink.view c.args.out.now) (g.O.Sink.view c.send_new.new.out) answer) c.from_residual.result c.in_err-send_new.field-0.0 c.from_residual.ensures
    (line-puts c.args.problem.now c.args.tree.now c.turn_line-turn.new.tree c.turn_line-turn.ensures.charter (length c.commits-sent.result.now) (ap length c.commits-sent.ensures.acts) c.args.line.now c.args.held (g.C.Clock.last c.turn_line-turn.new.tree.clock) c.turn_line-turn.result
    (subst (λ p. IfOk c.turn_line-turn.result (GoesOnBehind p c.args.tree.now.limits c.args.line.now (g.C.Clock.last c.turn_line-turn.new.tree.clock) c.args.tree.now.history c.turn_line-turn.new.tree.history c.args.held)) c.requires.worker c.turn_line-turn.ensures.on) c.turn_line-turn.ensures.over
    c.send_new.new.tree.history (g.O.Sink.view c.args.out.now) (g.O.Sink.view c.send_new.new.out) (Err c.in_err-send_new.field-0.0) c.in_err-send_new.ensures.stops c.in_err-send_new.ensures.puts)

pub returns-clause-puts : goal.returns-clause-puts
returns-clause-puts g c = line-puts c.args.problem.now c.args.tree.now c.turn_line-turn.new.tree c.turn_line-turn.ensures.charter (length c.commits-sent.result.now) (ap length c.commits-sent.ensures.acts) c.args.line.now c.args.held (g.C.Clock.last c.turn_line-turn.new.tree.clock) c.turn_line-turn.result
    (subst (λ p. IfOk c.turn_line-turn.result (GoesOnBehind p c.args.tree.now.limits c.args.line.now (g.C.Clock.last c.turn_line-turn.new.tree.clock) c.args.tree.now.history c.turn_line-turn.new.tree.history c.args.held)) c.requires.worker c.turn_line-turn.ensures.on) c.turn_line-turn.ensures.over
    c.send_new.new.tree.history (g.O.Sink.view c.args.out.now) (g.O.Sink.view c.send_new.new.out) (Ok tt) c.in_ok-send_new.ensures.stops c.in_ok-send_new.ensures.puts
