use Rattle.std.proofs.Common.{subst, sym}
use Rattle.open_tree.specs.Answers.{GivesTaken}
use Rattle.tp_spec.specs.Machine.{IsWholeRun}
use Rattle.serial_runs.proofs.Playing.{take-goes, take-finds, take-stops}
use Rattle.serial_runs.proofs.lines.take_line.Goals as goal

pub returns-in-Ok-Job-clause-on : goal.returns-in-Ok-Job-clause-on
returns-in-Ok-Job-clause-on g c = take-goes c.args.tree.now.problem c.args.tree.now.limits c.args.line.now (g.C.Clock.last c.take.new.self.clock) c.args.tree.now.history c.take.new.self.history c.requires.take c.in-Ok-Job.job
    (subst (GivesTaken c.args.tree.now.problem c.args.tree.now.limits c.args.tree.now.history c.take.new.self.history c.args.line.now.actor (g.C.Clock.last c.take.new.self.clock)) c.in-Ok-Job.field-0-is (c.in-Ok-Job.ensures.taken c.requires.standing))

pub returns-in-Ok-Nothing-clause-on : goal.returns-in-Ok-Nothing-clause-on
returns-in-Ok-Nothing-clause-on g c = take-finds c.args.tree.now.problem c.args.tree.now.limits c.args.line.now (g.C.Clock.last c.take.new.self.clock) c.args.tree.now.history c.take.new.self.history c.requires.take
    (subst (GivesTaken c.args.tree.now.problem c.args.tree.now.limits c.args.tree.now.history c.take.new.self.history c.args.line.now.actor (g.C.Clock.last c.take.new.self.clock)) c.in-Ok-Nothing.field-0-is (c.in-Ok-Nothing.ensures.taken c.requires.standing))

pub returns-in-Ok-Over-clause-over : goal.returns-in-Ok-Over-clause-over
returns-in-Ok-Over-clause-over g c = take-stops c.args.tree.now.problem c.args.tree.now.limits c.args.line.now (g.C.Clock.last c.take.new.self.clock) c.args.tree.now.history c.take.new.self.history c.requires.take c.requires.standing
    (subst (λ l. IsWholeRun c.args.tree.now.problem l c.take.new.self.history) (sym c.take.ensures.charter.limits) (subst (λ q. IsWholeRun q c.take.new.self.limits c.take.new.self.history) (sym c.take.ensures.charter.problem) c.take.ensures.whole))
    (subst (GivesTaken c.args.tree.now.problem c.args.tree.now.limits c.args.tree.now.history c.take.new.self.history c.args.line.now.actor (g.C.Clock.last c.take.new.self.clock)) c.in-Ok-Over.field-0-is (c.in-Ok-Over.ensures.taken c.requires.standing))
