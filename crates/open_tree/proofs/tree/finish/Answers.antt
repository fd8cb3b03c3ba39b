use Rattle.std.proofs.Common.{sym, ap, subst, ◌≡◌, ◌∙◌, true, false, [], IfSome}
use Rattle.tp_spec.specs.Schedules.{awaited}
use Rattle.tp_spec.specs.Words.{acts_of}
use Rattle.tp_laws.specs.Plans.{is_whole}
use Rattle.machine_run.specs.Turns.{has_outcome}
use Rattle.machine_run.specs.Views.{state, word_in}
use Rattle.open_tree.specs.Steps.{IsPublication}
use Rattle.open_tree.proofs.Merging.{acts-standing, publish-finishes, on-err}
use Rattle.open_tree.proofs.tree.finish.Goals as goal

pub plan_now-requires-clause-standing : goal.plan_now-requires-clause-standing
plan_now-requires-clause-standing c = acts-standing c.args.run.now c.args.actor c.requires.held.may

pub returns-in_err-plan-clause-err : goal.returns-in_err-plan-clause-err
returns-in_err-plan-clause-err c = on-err c.from_residual.result _ (acts-standing c.args.run.now c.args.actor c.requires.held.may)

pub publish-requires-clause-whole : goal.publish-requires-clause-whole
publish-requires-clause-whole c =
    let found = subst (λ o. IfSome o (IsPublication c.args.run.now c.args.sprouts.now.job.id)) c.in-Some.is c.in_ok-plan.ensures.some in
    subst (λ k. is_whole c.args.run.now.problem (word_in c.args.run.now k) ≡ true) (sym (c.id.ensures ∙ ap (λ j. j.id) c.job.ensures)) found.whole

pub publish-requires-clause-all : goal.publish-requires-clause-all
publish-requires-clause-all c =
    let found = subst (λ o. IfSome o (IsPublication c.args.run.now c.args.sprouts.now.job.id)) c.in-Some.is c.in_ok-plan.ensures.some in
    subst (λ k. awaited (acts_of c.args.run.now.problem (word_in c.args.run.now k)) (state c.args.run.now).commits ≡ []) (sym (c.id.ensures ∙ ap (λ j. j.id) c.job.ensures)) found.all

pub returns-in_err-publish-in-Some-clause-err : goal.returns-in_err-publish-in-Some-clause-err
returns-in_err-publish-in-Some-clause-err c =
    on-err c.from_residual-in_err-publish-in-Some.result _
    (subst (λ h. has_outcome h ≡ false) (sym c.in_err-publish-in-Some.ensures.err) (acts-standing c.args.run.now c.args.actor c.requires.held.may))

pub returns-in_ok-publish-in-Some-clause-done : goal.returns-in_ok-publish-in-Some-clause-done
returns-in_ok-publish-in-Some-clause-done c =
    publish-finishes c.args.run.now c.publish.new.self c.args.actor c.args.sprouts.now.job.id _ _ (c.id.ensures ∙ ap (λ j. j.id) c.job.ensures) c.in_ok-publish-in-Some.ensures.deed
