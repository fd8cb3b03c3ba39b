use Rattle.std.proofs.Common.{sym, subst, ◌∙◌, IfSome}
use Rattle.situated_machine.specs.Deadlines.{IsDeadlineIn, IsLiveIn}
use Rattle.situated_machine.specs.Keeping.{ReplayView}
use Rattle.situated_machine.proofs.Deadlines.{late-dead}
use Rattle.situated_machine.proofs.keeping.Replayer.live_deadline.Goals as goal

pub returns-then-deadline-self-clause-none : goal.returns-then-deadline-self-clause-none
returns-then-deadline-self-clause-none c =
    let timely = subst (λ o. IfSome o (IsDeadlineIn c.args.self.now c.args.node.id)) c.in-Some.is c.in_ok-deadline.ensures.some in
    let same = c.self.view_is ∙ c.in_ok-deadline.ensures.same in
    subst (λ (r : ReplayView). ¬ (IsLiveIn r c.args.node.id)) same
    (late-dead _ _ _ c.self.invariant.orderly _ c.in-Some.deadline
    (subst (λ (r : ReplayView). IsDeadlineIn r c.args.node.id c.in-Some.deadline) (sym same) timely)
    c.if-deadline-self.true)
