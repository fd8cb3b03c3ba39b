use Rattle.std.proofs.Common.{ap, subst, sym, ◌∙◌, inl, inr, None}
use Rattle.tp_spec.specs.Machine.{IsWholeRun}
use Rattle.serial_runs.specs.Playing.{GoesOnBehind, id_of}
use Rattle.serial_runs.proofs.Playing.{idle-over, look-goes, merge-idles, on-err}
use Rattle.serial_runs.proofs.lines.turn_line.Goals as goal

pub returns-in_err-look_line-in-None-clause-over : goal.returns-in_err-look_line-in-None-clause-over
returns-in_err-look_line-in-None-clause-over g c = on-err c.from_residual-in_err-look_line-in-None.result
    (idle-over c.args.worker.now c.args.tree.now.limits c.args.line.now (g.C.Clock.last c.look_line.new.tree.clock) c.args.tree.now.history c.look_line.new.tree.history (id_of c.args.held) (inr (c.in-Merge.is, ap id_of c.in-None.is)) c.requires.standing
    (subst (λ l. IsWholeRun c.args.worker.now l c.look_line.new.tree.history) (sym c.look_line.ensures.charter.limits) (subst (λ q. IsWholeRun q c.look_line.new.tree.limits c.look_line.new.tree.history) (sym c.look_line.ensures.charter.problem ∙ c.requires.problem) c.look_line.ensures.whole)) c.in_err-look_line-in-None.ensures.over)

pub returns-in-Merge-clause-on : goal.returns-in-Merge-clause-on
returns-in-Merge-clause-on g c = subst (λ h. GoesOnBehind c.args.worker.now c.args.tree.now.limits c.args.line.now (g.C.Clock.last c.look_line.new.tree.clock) c.args.tree.now.history c.look_line.new.tree.history h None) (sym c.in-None.is)
    (merge-idles c.args.worker.now c.args.tree.now.limits c.args.line.now (g.C.Clock.last c.look_line.new.tree.clock) c.args.tree.now.history c.look_line.new.tree.history c.in_ok-look_line-in-None.ensures.on.turn c.in-Merge.is c.in_ok-look_line-in-None.ensures.on.outcome)

pub returns-in_err-look_line-in-Look-clause-over : goal.returns-in_err-look_line-in-Look-clause-over
returns-in_err-look_line-in-Look-clause-over g c = on-err c.from_residual-in_err-look_line-in-Look.result
    (idle-over c.args.worker.now c.args.tree.now.limits c.args.line.now (g.C.Clock.last c.look_line-in-Look.new.tree.clock) c.args.tree.now.history c.look_line-in-Look.new.tree.history (id_of c.args.held) (inl c.in-Look.is) c.requires.standing
    (subst (λ l. IsWholeRun c.args.worker.now l c.look_line-in-Look.new.tree.history) (sym c.look_line-in-Look.ensures.charter.limits) (subst (λ q. IsWholeRun q c.look_line-in-Look.new.tree.limits c.look_line-in-Look.new.tree.history) (sym c.look_line-in-Look.ensures.charter.problem ∙ c.requires.problem) c.look_line-in-Look.ensures.whole)) c.in_err-look_line-in-Look.ensures.over)

pub returns-clause-on : goal.returns-clause-on
returns-clause-on g c = look-goes c.args.worker.now c.args.tree.now.limits c.args.line.now (g.C.Clock.last c.look_line-in-Look.new.tree.clock) c.args.tree.now.history c.look_line-in-Look.new.tree.history c.in_ok-look_line-in-Look.ensures.on.turn c.args.held c.in-Look.is c.in_ok-look_line-in-Look.ensures.on.outcome
