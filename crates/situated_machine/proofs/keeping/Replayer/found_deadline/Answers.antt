use Rattle.std.proofs.Common.{◌≡◌, ◌<◌, ◌^◌, sym, subst, ◌∙◌, true, length}
use Rattle.std.proofs.lemmas.Option.{IfSome_then}
use Rattle.std.proofs.lemmas.Result.{IfOk-weaker}
use Rattle.tp_spec.specs.Schedules.{Live}
use Rattle.tp_spec.specs.Words.{Sound}
use Rattle.tp_laws.specs.Clocks.{IsDeadline}
use Rattle.word_network.specs.Conditions.{AreCommits}
use Rattle.machine_run.proofs.Dispatching.{none-then}
use Rattle.situated_machine.specs.Deadlines.{IsDeadlineIn, IsLiveIn}
use Rattle.situated_machine.specs.Keeping.{ReplayView}
use Rattle.situated_machine.specs.Rules.{has_id}
use Rattle.situated_machine.proofs.Deadlines.{commits-fit, copy-word, copy-sound, copy-few, kept-id, never-live}
use Rattle.situated_machine.proofs.keeping.Replayer.found_deadline.Goals as goal

pub copy_of-requires : goal.copy_of-requires
copy_of-requires c = kept-id c.self.invariant c.args.id (subst (λ (r : ReplayView). has_id c.args.id r.machine.nodes ≡ true) (sym c.self.view_is) c.requires.there)

pub deadline-requires-clause-commits : goal.deadline-requires-clause-commits
deadline-requires-clause-commits c = subst (AreCommits c.self.inside.problem.now) (sym c.acts.ensures) (commits-fit _ _ _ c.self.invariant.orderly c.self.invariant.limited)

pub deadline-requires-clause-sound : goal.deadline-requires-clause-sound
deadline-requires-clause-sound c = subst (Sound c.self.inside.problem.now) (sym c.word.ensures) (copy-sound c.self.invariant c.args.id _ c.in_ok-node.ensures)

pub deadline-requires-clause-few : goal.deadline-requires-clause-few
deadline-requires-clause-few c = subst (λ w. length w < 2 ^ 31) (sym c.word.ensures) (copy-few c.self.invariant c.args.id _ c.in_ok-node.ensures)

pub returns-clause-some : goal.returns-clause-some
returns-clause-some c =
    let word = c.word.ensures ∙ copy-word c.self.invariant c.args.id _ c.in_ok-node.ensures in
    IfOk-weaker c.deadline.result _ _ (λ r found. IfSome_then r found (λ d timely.
    subst (λ (r : ReplayView). IsDeadlineIn r c.args.id d) c.self.view_is
    (subst (λ w. IsDeadline c.self.inside.problem.now c.self.inside.limits c.self.inside.commits w d) word
    (subst (λ cs. IsDeadline c.self.inside.problem.now c.self.inside.limits cs c.word.result.now d) c.acts.ensures timely))))
    c.deadline.ensures.some

pub returns-clause-none : goal.returns-clause-none
returns-clause-none c =
    let word = c.word.ensures ∙ copy-word c.self.invariant c.args.id _ c.in_ok-node.ensures in
    IfOk-weaker c.deadline.result _ _ (λ r found. none-then r (λ dead.
    subst (λ (r : ReplayView). ¬ (IsLiveIn r c.args.id)) c.self.view_is
    (never-live _ _ _ c.self.invariant.orderly _
    (subst (λ w. ¬ (Live c.self.inside.problem.now c.self.inside.limits 0 c.self.inside.commits w)) word
    (subst (λ cs. ¬ (Live c.self.inside.problem.now c.self.inside.limits 0 cs c.word.result.now)) c.acts.ensures dead)))) found)
    c.deadline.ensures.none
