use Rattle.std.proofs.Common.{◌≡◌, ◌<◌, ◌^◌, sym, subst, ◌∙◌, false, length}
use Rattle.std.proofs.lemmas.Option.{IfSome_then}
use Rattle.std.proofs.lemmas.Result.{IfOk-weaker}
use Rattle.tp_spec.specs.Schedules.{Live}
use Rattle.tp_spec.specs.Words.{Sound}
use Rattle.tp_laws.specs.Clocks.{IsDeadline}
use Rattle.word_network.specs.Conditions.{AreCommits}
use Rattle.machine_run.specs.Settling.{IsDead, IsDeadlineIn}
use Rattle.machine_run.specs.Turns.{has_outcome}
use Rattle.machine_run.specs.Views.{RunView}
use Rattle.machine_run.proofs.Dispatching.{commits-fit, copy-sound, copy-few, found-deadline, found-dead, none-then}
use Rattle.machine_run.proofs.run.MachineRun.found_deadline.Goals as goal

pub deadline-requires-clause-commits : goal.deadline-requires-clause-commits
deadline-requires-clause-commits c =
    let fit = commits-fit _ c.self.invariant.stands in
    subst (AreCommits c.self.inside.problem.now) (sym (c.acts.ensures ∙ c.self.invariant.committed)) fit

pub deadline-requires-clause-sound : goal.deadline-requires-clause-sound
deadline-requires-clause-sound c =
    let none = subst (λ (r : RunView). has_outcome r.history ≡ false) (sym c.self.view_is) c.requires.standing in
    subst (Sound c.self.inside.problem.now) (sym c.word.ensures) (copy-sound c.self.invariant none c.args.id _ c.in_ok-node.ensures)

pub deadline-requires-clause-few : goal.deadline-requires-clause-few
deadline-requires-clause-few c =
    let none = subst (λ (r : RunView). has_outcome r.history ≡ false) (sym c.self.view_is) c.requires.standing in
    subst (λ w. length w < 2 ^ 31) (sym c.word.ensures) (copy-few c.self.invariant none c.args.id _ c.in_ok-node.ensures)

pub returns-clause-some : goal.returns-clause-some
returns-clause-some c =
    let none = subst (λ (r : RunView). has_outcome r.history ≡ false) (sym c.self.view_is) c.requires.standing in
    IfOk-weaker c.deadline.result _ _ (λ r found. IfSome_then r found (λ d timely.
    subst (λ (r : RunView). IsDeadlineIn r c.args.id d) c.self.view_is
    (found-deadline c.self.invariant none c.args.id _ c.in_ok-node.ensures d
    (subst (λ cs. IsDeadline c.self.inside.problem.now c.self.inside.limits cs c.in_ok-node.node.word d) c.acts.ensures
    (subst (λ w. IsDeadline c.self.inside.problem.now c.self.inside.limits c.acts.result.now w d) c.word.ensures timely)))))
    c.deadline.ensures.some

pub returns-clause-none : goal.returns-clause-none
returns-clause-none c =
    let none = subst (λ (r : RunView). has_outcome r.history ≡ false) (sym c.self.view_is) c.requires.standing in
    IfOk-weaker c.deadline.result _ _ (λ r found. none-then r (λ dead.
    subst (λ (r : RunView). IsDead r c.args.id) c.self.view_is
    (found-dead c.self.invariant none c.args.id _ c.in_ok-node.ensures
    (subst (λ cs. ¬ (Live c.self.inside.problem.now c.self.inside.limits 0 cs c.in_ok-node.node.word)) c.acts.ensures
    (subst (λ w. ¬ (Live c.self.inside.problem.now c.self.inside.limits 0 c.acts.result.now w)) c.word.ensures dead)))) found)
    c.deadline.ensures.none
