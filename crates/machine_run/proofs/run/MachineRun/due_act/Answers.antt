use Rattle.std.proofs.Common.{◌≡◌, ◌+◌, ◌<◌, ◌^◌, ◌⊎◌, inl, inr, sym, subst, ◌∙◌, false, length, IfSome, IfNone}
use Rattle.std.proofs.lemmas.Option.{IfSome_then}
use Rattle.tp_spec.specs.Machine.{IsDue, IsSettled}
use Rattle.tp_spec.specs.Schedules.{Live}
use Rattle.tp_spec.specs.Words.{Sound}
use Rattle.word_network.specs.Conditions.{AreCommits}
use Rattle.word_network.specs.Schedules.{IsLatest}
use Rattle.machine_run.specs.Settling.{LeastIs, IsLiveUntil}
use Rattle.machine_run.specs.Turns.{has_outcome}
use Rattle.machine_run.specs.Views.{RunView, state}
use Rattle.machine_run.proofs.Dispatching.{commits-fit, copy-word, copy-sound, copy-few, dead-none, settled-far, settled-urgent, urgent-due, none-then}
use Rattle.machine_run.proofs.Taking.{has-id}
use Rattle.machine_run.proofs.run.MachineRun.due_act.Goals.{then-deadline-self-via-then-deadline-self, then-deadline-self-via-else-deadline-self+then-deadline-self-2}
use Rattle.machine_run.proofs.run.MachineRun.due_act.Goals as goal

pub returns-then-deadline-self-clause-none : goal.returns-then-deadline-self-clause-none
returns-then-deadline-self-clause-none c =
    let none = subst (λ (r : RunView). has_outcome r.history ≡ false) (sym c.self.view_is) c.requires.standing in
    let best = subst (λ (r : RunView). LeastIs r.frontier.nodes c.args.id) (sym c.self.view_is) c.requires.best in
    let live = subst (λ (r : RunView). IsLiveUntil r c.args.id c.args.deadline) (sym c.self.view_is) c.requires.live in
    let far : (c.self.inside.limits.horizon < c.args.deadline) ⊎ (c.self.inside.clock + c.self.inside.limits.lead < c.args.deadline) = elim c.then-deadline-self.branch [
      | then-deadline-self-via-then-deadline-self w ↦ inl w.if-deadline-self.true
      | then-deadline-self-via-else-deadline-self+then-deadline-self-2 w ↦ inr w.if-deadline-self-2.true
    ] in
    subst (λ (r : RunView). IsSettled r.problem r.limits (state r)) c.self.view_is
    (settled-far c.self.invariant none c.args.id c.args.deadline best live (c.deadlines_and_dispatches.ensures.none _ _ c.self.invariant.stands.formed) far)

pub copy_of-requires : goal.copy_of-requires
copy_of-requires c =
    let best = subst (λ (r : RunView). LeastIs r.frontier.nodes c.args.id) (sym c.self.view_is) c.requires.best in
    has-id c.args.id best.node _ best.least.there best.id_is

pub latest_schedule-requires-clause-commits : goal.latest_schedule-requires-clause-commits
latest_schedule-requires-clause-commits c =
    let fit = commits-fit _ c.self.invariant.stands in
    subst (AreCommits c.self.inside.problem.now) (sym (c.acts-acts.ensures ∙ c.self.invariant.committed)) fit

pub latest_schedule-requires-clause-sound : goal.latest_schedule-requires-clause-sound
latest_schedule-requires-clause-sound c =
    let none = subst (λ (r : RunView). has_outcome r.history ≡ false) (sym c.self.view_is) c.requires.standing in
    subst (Sound c.self.inside.problem.now) (sym c.word-word.ensures) (copy-sound c.self.invariant none c.args.id _ c.in_ok-node.ensures)

pub latest_schedule-requires-clause-few : goal.latest_schedule-requires-clause-few
latest_schedule-requires-clause-few c =
    let none = subst (λ (r : RunView). has_outcome r.history ≡ false) (sym c.self.view_is) c.requires.standing in
    subst (λ w. length w < 2 ^ 31) (sym c.word-word.ensures) (copy-few c.self.invariant none c.args.id _ c.in_ok-node.ensures)

pub urgent-requires-clause-sound : goal.urgent-requires-clause-sound
urgent-requires-clause-sound c =
    let none = subst (λ (r : RunView). has_outcome r.history ≡ false) (sym c.self.view_is) c.requires.standing in
    subst (Sound c.self.inside.problem.now) (sym c.word-word.ensures) (copy-sound c.self.invariant none c.args.id _ c.in_ok-node.ensures)

pub urgent-requires-clause-few : goal.urgent-requires-clause-few
urgent-requires-clause-few c =
    let none = subst (λ (r : RunView). has_outcome r.history ≡ false) (sym c.self.view_is) c.requires.standing in
    subst (λ w. length w < 2 ^ 31) (sym c.word-word.ensures) (copy-few c.self.invariant none c.args.id _ c.in_ok-node.ensures)

pub returns-in-None-clause-none : goal.returns-in-None-clause-none
returns-in-None-clause-none c =
    let none = subst (λ (r : RunView). has_outcome r.history ≡ false) (sym c.self.view_is) c.requires.standing in
    let best = subst (λ (r : RunView). LeastIs r.frontier.nodes c.args.id) (sym c.self.view_is) c.requires.best in
    let live = subst (λ (r : RunView). IsLiveUntil r c.args.id c.args.deadline) (sym c.self.view_is) c.requires.live in
    let word = c.word-word.ensures ∙ copy-word c.self.invariant none c.args.id _ c.in_ok-node.ensures best.node best.least.there best.id_is in
    let dead = subst (λ o. IfNone o (¬ (Live c.self.inside.problem.now c.self.inside.limits c.self.inside.clock c.acts-acts.result.now c.word-word.result.now))) c.in-None.is c.in_ok-latest_schedule.ensures.none in
    absurd (dead-none c.self.invariant none c.args.id c.args.deadline best live c.acts-acts.result.now c.word-word.result.now c.acts-acts.ensures word dead)

pub returns-clause-some : goal.returns-clause-some
returns-clause-some c =
    let none = subst (λ (r : RunView). has_outcome r.history ≡ false) (sym c.self.view_is) c.requires.standing in
    let best = subst (λ (r : RunView). LeastIs r.frontier.nodes c.args.id) (sym c.self.view_is) c.requires.best in
    let live = subst (λ (r : RunView). IsLiveUntil r c.args.id c.args.deadline) (sym c.self.view_is) c.requires.live in
    let word = c.word-word.ensures ∙ copy-word c.self.invariant none c.args.id _ c.in_ok-node.ensures best.node best.least.there best.id_is in
    let latest = subst (λ o. IfSome o (IsLatest c.self.inside.problem.now c.self.inside.limits c.self.inside.clock c.acts-acts.result.now c.word-word.result.now)) c.in-Some.is c.in_ok-latest_schedule.ensures.some in
    IfSome_then c.urgent.result c.urgent.ensures.some (λ act urgent.
    subst (λ (r : RunView). IsDue r.problem r.limits (state r) act) c.self.view_is
    (urgent-due c.self.invariant none c.args.id c.args.deadline best live c.acts-acts.result.now c.word-word.result.now c.acts-acts.ensures word c.in-Some.latest latest act urgent))

pub returns-clause-none : goal.returns-clause-none
returns-clause-none c =
    let none = subst (λ (r : RunView). has_outcome r.history ≡ false) (sym c.self.view_is) c.requires.standing in
    let best = subst (λ (r : RunView). LeastIs r.frontier.nodes c.args.id) (sym c.self.view_is) c.requires.best in
    let live = subst (λ (r : RunView). IsLiveUntil r c.args.id c.args.deadline) (sym c.self.view_is) c.requires.live in
    let word = c.word-word.ensures ∙ copy-word c.self.invariant none c.args.id _ c.in_ok-node.ensures best.node best.least.there best.id_is in
    let latest = subst (λ o. IfSome o (IsLatest c.self.inside.problem.now c.self.inside.limits c.self.inside.clock c.acts-acts.result.now c.word-word.result.now)) c.in-Some.is c.in_ok-latest_schedule.ensures.some in
    none-then c.urgent.result (λ never.
    subst (λ (r : RunView). IsSettled r.problem r.limits (state r)) c.self.view_is
    (settled-urgent c.self.invariant none c.args.id c.args.deadline best live c.acts-acts.result.now c.word-word.result.now c.acts-acts.ensures word c.in-Some.latest latest never))
    c.urgent.ensures.none
