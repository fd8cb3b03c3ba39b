use Rattle.std.proofs.Common.{◌+◌, ◌<◌, ◌^◌, ◌⊎◌, inl, inr, sym, subst, ◌∙◌, length, IfSome, IfNone}
use Rattle.std.proofs.lemmas.Option.{IfSome_then}
use Rattle.tp_spec.specs.Machine.{IsDue, IsQuiet}
use Rattle.tp_spec.specs.Schedules.{Live}
use Rattle.tp_spec.specs.Words.{Sound}
use Rattle.word_network.specs.Conditions.{AreCommits}
use Rattle.word_network.specs.Schedules.{IsLatest}
use Rattle.machine_run.proofs.Dispatching.{none-then}
use Rattle.situated_machine.specs.Deadlines.{IsLiveUntil}
use Rattle.situated_machine.specs.Keeping.{ReplayView}
use Rattle.situated_machine.specs.Rules.{IsOfBest}
use Rattle.situated_machine.proofs.Deadlines.{best-has, commits-fit, copy-word, copy-sound, copy-few}
use Rattle.situated_machine.proofs.Settled.{none-dead, quiet-far, quiet-urgent, urgent-due}
use Rattle.situated_machine.proofs.keeping.Replayer.due_act.Goals.{then-deadline-self-via-then-deadline-self, then-deadline-self-via-else-deadline-self+then-deadline-self-2}
use Rattle.situated_machine.proofs.keeping.Replayer.due_act.Goals as goal

pub returns-then-deadline-self-clause-none : goal.returns-then-deadline-self-clause-none
returns-then-deadline-self-clause-none c =
    let best = subst (λ (r : ReplayView). IsOfBest r.problem r.machine.nodes c.args.id) (sym c.self.view_is) c.requires.best in
    let live = subst (λ (r : ReplayView). IsLiveUntil r c.args.id c.args.deadline) (sym c.self.view_is) c.requires.live in
    let far : (c.self.inside.limits.horizon < c.args.deadline) ⊎ (c.self.inside.clock + c.self.inside.limits.lead < c.args.deadline) = elim c.then-deadline-self.branch [
      | then-deadline-self-via-then-deadline-self w ↦ inl w.if-deadline-self.true
      | then-deadline-self-via-else-deadline-self+then-deadline-self-2 w ↦ inr w.if-deadline-self-2.true
    ] in
    subst (λ (r : ReplayView). IsQuiet r.problem r.limits r.machine) c.self.view_is
    (quiet-far _ c.self.invariant.orderly c.args.id best c.args.deadline live (c.deadlines_and_dispatches.ensures.none _ _ c.self.invariant.formed) far)

pub copy_of-requires : goal.copy_of-requires
copy_of-requires c = best-has c.self.invariant c.args.id (subst (λ (r : ReplayView). IsOfBest r.problem r.machine.nodes c.args.id) (sym c.self.view_is) c.requires.best)

pub latest_schedule-requires-clause-commits : goal.latest_schedule-requires-clause-commits
latest_schedule-requires-clause-commits c = subst (AreCommits c.self.inside.problem.now) (sym c.acts-acts.ensures) (commits-fit _ _ _ c.self.invariant.orderly c.self.invariant.limited)

pub latest_schedule-requires-clause-sound : goal.latest_schedule-requires-clause-sound
latest_schedule-requires-clause-sound c = subst (Sound c.self.inside.problem.now) (sym c.word-word.ensures) (copy-sound c.self.invariant c.args.id _ c.in_ok-node.ensures)

pub latest_schedule-requires-clause-few : goal.latest_schedule-requires-clause-few
latest_schedule-requires-clause-few c = subst (λ w. length w < 2 ^ 31) (sym c.word-word.ensures) (copy-few c.self.invariant c.args.id _ c.in_ok-node.ensures)

pub urgent-requires-clause-sound : goal.urgent-requires-clause-sound
urgent-requires-clause-sound c = subst (Sound c.self.inside.problem.now) (sym c.word-word.ensures) (copy-sound c.self.invariant c.args.id _ c.in_ok-node.ensures)

pub urgent-requires-clause-few : goal.urgent-requires-clause-few
urgent-requires-clause-few c = subst (λ w. length w < 2 ^ 31) (sym c.word-word.ensures) (copy-few c.self.invariant c.args.id _ c.in_ok-node.ensures)

pub returns-in-None-clause-none : goal.returns-in-None-clause-none
returns-in-None-clause-none c =
    let best = subst (λ (r : ReplayView). IsOfBest r.problem r.machine.nodes c.args.id) (sym c.self.view_is) c.requires.best in
    let live = subst (λ (r : ReplayView). IsLiveUntil r c.args.id c.args.deadline) (sym c.self.view_is) c.requires.live in
    let word = c.word-word.ensures ∙ copy-word c.self.invariant c.args.id _ c.in_ok-node.ensures in
    let dead = subst (λ o. IfNone o (¬ (Live c.self.inside.problem.now c.self.inside.limits c.self.inside.clock c.acts-acts.result.now c.word-word.result.now))) c.in-None.is c.in_ok-latest_schedule.ensures.none in
    absurd (none-dead _ c.self.invariant.orderly c.args.id best c.args.deadline live c.acts-acts.result.now c.word-word.result.now c.acts-acts.ensures word dead)

pub returns-clause-some : goal.returns-clause-some
returns-clause-some c =
    let best = subst (λ (r : ReplayView). IsOfBest r.problem r.machine.nodes c.args.id) (sym c.self.view_is) c.requires.best in
    let live = subst (λ (r : ReplayView). IsLiveUntil r c.args.id c.args.deadline) (sym c.self.view_is) c.requires.live in
    let word = c.word-word.ensures ∙ copy-word c.self.invariant c.args.id _ c.in_ok-node.ensures in
    let latest = subst (λ o. IfSome o (IsLatest c.self.inside.problem.now c.self.inside.limits c.self.inside.clock c.acts-acts.result.now c.word-word.result.now)) c.in-Some.is c.in_ok-latest_schedule.ensures.some in
    IfSome_then c.urgent.result c.urgent.ensures.some (λ act urgent.
    subst (λ (r : ReplayView). IsDue r.problem r.limits r.machine act) c.self.view_is
    (urgent-due _ c.self.invariant.orderly c.args.id best c.args.deadline live c.acts-acts.result.now c.word-word.result.now c.acts-acts.ensures word c.in-Some.latest latest act urgent))

pub returns-clause-none : goal.returns-clause-none
returns-clause-none c =
    let best = subst (λ (r : ReplayView). IsOfBest r.problem r.machine.nodes c.args.id) (sym c.self.view_is) c.requires.best in
    let live = subst (λ (r : ReplayView). IsLiveUntil r c.args.id c.args.deadline) (sym c.self.view_is) c.requires.live in
    let word = c.word-word.ensures ∙ copy-word c.self.invariant c.args.id _ c.in_ok-node.ensures in
    let latest = subst (λ o. IfSome o (IsLatest c.self.inside.problem.now c.self.inside.limits c.self.inside.clock c.acts-acts.result.now c.word-word.result.now)) c.in-Some.is c.in_ok-latest_schedule.ensures.some in
    none-then c.urgent.result (λ never.
    subst (λ (r : ReplayView). IsQuiet r.problem r.limits r.machine) c.self.view_is
    (quiet-urgent _ c.self.invariant.orderly c.args.id best c.args.deadline live c.acts-acts.result.now c.word-word.result.now c.acts-acts.ensures word c.in-Some.latest latest never))
    c.urgent.ensures.none
