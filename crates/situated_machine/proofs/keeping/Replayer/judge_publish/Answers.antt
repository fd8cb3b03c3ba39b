use Rattle.std.proofs.Common.{refl, subst, ◌∙◌}
use Rattle.std.specs.Prelude.{IfNone}
use Rattle.tp_spec.specs.declared.event.Event.TheVariants.{Publish}
use Rattle.tp_spec.specs.Machine.{IsSettled, word_of}
use Rattle.situated_machine.specs.Judged.{MayWorkOn}
use Rattle.situated_machine.specs.Keeping.{ReplayView}
use Rattle.situated_machine.specs.Rules.{IsPlanOf}
use Rattle.situated_machine.proofs.Replaying.{plan-keeps, steps-follow, taken-stands}
use Rattle.situated_machine.proofs.keeping.Replayer.judge_publish.Goals as goal

pub returns-in-Some : goal.returns-in-Some
returns-in-Some c = c.in-Some.ensures.some (Publish c.args.actor c.args.id c.args.plan.now) (refl, refl)

pub is_plan-requires : goal.is_plan-requires
is_plan-requires c = record { there = taken-stands c.args.id c.args.actor c.args.self.now.machine.nodes (subst (λ o. IfNone o (MayWorkOn c.args.self.now.machine c.args.actor c.args.id)) c.in_default.is c.judge_deed.ensures.none).taken }

pub returns : goal.returns
returns c =
    let may : MayWorkOn c.args.self.now.machine c.args.actor c.args.id = subst (λ o. IfNone o (MayWorkOn c.args.self.now.machine c.args.actor c.args.id)) c.in_default.is c.judge_deed.ensures.none in
    let is : IsPlanOf c.args.self.now.problem c.args.self.now.limits c.args.self.now.machine (word_of c.args.id c.args.self.now.machine.nodes) c.args.plan.now = c.in_ok-is_plan.ensures.yes c.if-not-branch.false in
    let settled : IsSettled c.args.self.now.problem c.args.self.now.limits c.args.self.now.machine = subst (λ (r : ReplayView). IsSettled r.problem r.limits r.machine) c.is_plan.ensures.same (c.in_ok-is_settled.ensures.yes c.if-not-branch-2.false) in
    steps-follow c.args.self.now c.is_settled.new.self c.publish.new.self (Publish c.args.actor c.args.id c.args.plan.now) (c.is_settled.ensures.same ∙ c.is_plan.ensures.same)
    (plan-keeps c.args.self.now.problem c.args.self.now.limits c.args.self.now.machine c.args.actor c.args.id may c.args.plan.now is settled)
    (c.publish.ensures c.args.plan.now)
