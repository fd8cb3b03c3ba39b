use Rattle.std.proofs.Common.{◌≡◌, refl, subst, ap, ◌∙◌}
use Rattle.std.specs.Prelude.{IfNone, IfSome}
use Rattle.tp_spec.specs.declared.event.Event.TheVariants.{Expand}
use Rattle.tp_spec.specs.Machine.{word_of}
use Rattle.machine_run.specs.Children.{marks_of}
use Rattle.situated_machine.specs.Judged.{AreChildrenOf, MayWorkOn}
use Rattle.situated_machine.proofs.Replaying.{marks-broken, taken-stands}
use Rattle.situated_machine.proofs.keeping.Replayer.judge_expand.Goals as goal

pub returns-in-Some : goal.returns-in-Some
returns-in-Some c = c.in-Some.ensures.some (Expand c.args.actor c.args.id c.args.marks.now) (refl, refl)

pub children-requires : goal.children-requires
children-requires c = record { there = taken-stands c.args.id c.args.actor c.args.self.now.machine.nodes (subst (λ o. IfNone o (MayWorkOn c.args.self.now.machine c.args.actor c.args.id)) c.in_default.is c.judge_deed.ensures.none).taken }

pub returns-then-not-have_marks : goal.returns-then-not-have_marks
returns-then-not-have_marks c =
    let may : MayWorkOn c.args.self.now.machine c.args.actor c.args.id = subst (λ o. IfNone o (MayWorkOn c.args.self.now.machine c.args.actor c.args.id)) c.in_default.is c.judge_deed.ensures.none in
    let are : AreChildrenOf c.args.self.now (word_of c.args.id c.args.self.now.machine.nodes) c.in-Some-2.children = subst (λ o. IfSome o (AreChildrenOf c.args.self.now (word_of c.args.id c.args.self.now.machine.nodes))) c.in-Some-2.is c.in_ok-children.ensures.some in
    let listed : c.as_slice.result.now ≡ c.in-Some-2.children = c.as_slice.ensures in
    let fails : ¬ (marks_of c.as_slice.result.now ≡ c.args.marks.now) = c.have_marks.ensures.no c.if-not-have_marks.true in
    marks-broken c.args.self.now.problem c.args.self.now.limits c.args.self.now.machine c.args.actor c.args.id may (marks_of c.in-Some-2.children) c.args.marks.now are.exact (λ k. fails (ap marks_of listed ∙ k))
