use Rattle.std.proofs.Common.{subst, sym, ◌∙◌, inr}
use Rattle.tp_spec.specs.declared.event.Cause.TheVariants.{Memory}
use Rattle.tp_spec.specs.Machine.{IsWholeRun}
use Rattle.open_tree.specs.Answers.{GivesMerged}
use Rattle.std.proofs.Common.{IfOk}
use Rattle.serial_runs.proofs.OneJob.{can-sprout, halt-over}
use Rattle.serial_runs.proofs.Playing.{merge-goes-on, merge-stops}
use Rattle.serial_runs.proofs.lines.merge_line.Goals as goal

pub sprout-requires : goal.sprout-requires
sprout-requires g c = can-sprout c.args.worker.now c.args.tree.now.limits c.args.tree.now.history c.args.line.now.actor c.args.job
    (c.states_of_runs.ensures c.args.worker.now c.args.tree.now.limits c.requires.bounded.formed) c.requires.bounded
    (subst (λ p. IsWholeRun p c.args.tree.now.limits c.args.tree.now.history) c.requires.problem c.history.ensures.whole) c.requires.job

pub returns-in_default-clause-over : goal.returns-in_default-clause-over
returns-in_default-clause-over g c = record {
  outcome = halt-over c.args.tree.now.history c.halt.new.self.history Memory (c.halt.ensures.halted c.requires.standing);
  how = inr (c.halt.ensures.halted c.requires.standing);
}

pub returns-then-may_go_on-clause-on : goal.returns-then-may_go_on-clause-on
returns-then-may_go_on-clause-on g c = merge-goes-on c.args.worker.now c.args.tree.now.limits c.args.line.now (g.C.Clock.last c.hand_in-merged.new.tree.clock) c.args.tree.now.history c.hand_in-merged.new.tree.history c.args.job c.requires.merge c.hand_in-merged.result
    (subst (λ j. IfOk c.hand_in-merged.result (GivesMerged c.args.tree.now.limits c.args.tree.now.history c.hand_in-merged.new.tree.history c.args.line.now.actor (g.C.Clock.last c.hand_in-merged.new.tree.clock) j.id)) c.in-Ok.ensures.sprouts c.hand_in-merged.ensures.merged)
    (sym c.may_go_on.ensures ∙ c.if-may_go_on.true)

pub returns-else-may_go_on-clause-over : goal.returns-else-may_go_on-clause-over
returns-else-may_go_on-clause-over g c = merge-stops c.args.worker.now c.args.tree.now.limits c.args.line.now (g.C.Clock.last c.hand_in-merged.new.tree.clock) c.args.tree.now.history c.hand_in-merged.new.tree.history c.args.job c.requires.merge c.hand_in-merged.result
    (subst (λ j. IfOk c.hand_in-merged.result (GivesMerged c.args.tree.now.limits c.args.tree.now.history c.hand_in-merged.new.tree.history c.args.line.now.actor (g.C.Clock.last c.hand_in-merged.new.tree.clock) j.id)) c.in-Ok.ensures.sprouts c.hand_in-merged.ensures.merged)
    c.hand_in-merged.ensures.refused (sym c.may_go_on.ensures ∙ c.if-may_go_on.false) c.requires.standing
    (subst (λ l. IsWholeRun c.args.worker.now l c.hand_in-merged.new.tree.history) (sym c.hand_in-merged.ensures.charter.limits)
    (subst (λ q. IsWholeRun q c.hand_in-merged.new.tree.limits c.hand_in-merged.new.tree.history) (sym c.hand_in-merged.ensures.charter.problem ∙ c.requires.problem) c.hand_in-merged.ensures.whole))
