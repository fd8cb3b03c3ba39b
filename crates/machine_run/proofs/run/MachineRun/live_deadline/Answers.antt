use Rattle.std.proofs.Common.{◌≡◌, sym, ap, subst, ◌∙◌, false, IfSome}
use Rattle.machine_run.specs.Settling.{IsDead, KeepsDeadline}
use Rattle.machine_run.specs.Turns.{has_outcome}
use Rattle.machine_run.specs.Views.{RunView}
use Rattle.machine_run.proofs.Dispatching.{late-dead}
use Rattle.machine_run.proofs.run.MachineRun.live_deadline.Goals as goal

pub returns-then-deadline-self-clause-none : goal.returns-then-deadline-self-clause-none
returns-then-deadline-self-clause-none c =
    let none = subst (λ (r : RunView). has_outcome r.history ≡ false) (sym c.self.view_is) (ap has_outcome c.in_ok-deadline.ensures.renews.history ∙ c.requires.standing) in
    let keeps = subst (λ o. IfSome o (KeepsDeadline c.renewed_deadline.new.self c.args.node.id)) c.in-Some.is c.in_ok-deadline.ensures.some in
    subst (λ (r : RunView). IsDead r c.args.node.id) c.self.view_is
    (late-dead c.self.invariant none c.args.node.id c.in-Some.deadline
    (subst (λ (r : RunView). KeepsDeadline r c.args.node.id c.in-Some.deadline) (sym c.self.view_is) keeps)
    c.if-deadline-self.true)
