use Rattle.std.proofs.Common.{◌≡◌, refl, sym, subst, ap, ◌∙◌, length, arith}
use Rattle.std.specs.Prelude.{IfNone, IfSome}
use Rattle.std.proofs.lemmas.Bool.Decides.{nat_tests}
use Rattle.std.proofs.lemmas.List.{length-map}
use Rattle.tp_spec.specs.declared.event.Event.TheVariants.{Limit}
use Rattle.tp_spec.specs.Machine.{word_of}
use Rattle.word_frontier.specs.declared.child.Child.{Child}
use Rattle.machine_run.specs.Children.{marks_of}
use Rattle.situated_machine.specs.Judged.{AreChildrenOf, MayWorkOn}
use Rattle.situated_machine.specs.Keeping.{ReplayView}
use Rattle.situated_machine.proofs.Replaying.{number-broken, taken-stands}
use Rattle.situated_machine.proofs.keeping.Replayer.judge_limit.Goals as goal
use Rattle.situated_machine.proofs.keeping.Replayer.judge_limit.Goals.{then-made-via-then-made, then-made-via-else-made+then-marks-found, then-made-via-else-made+else-marks-found+then-not-is_full}

pub returns-in-Some : goal.returns-in-Some
returns-in-Some c = c.in-Some.ensures.some (Limit c.args.actor c.args.id c.args.made c.args.marks) (refl, refl)

pub children-requires : goal.children-requires
children-requires c = record { there = taken-stands c.args.id c.args.actor c.args.self.now.machine.nodes (subst (λ o. IfNone o (MayWorkOn c.args.self.now.machine c.args.actor c.args.id)) c.in_default.is c.judge_deed.ensures.none).taken }

pub returns-then-made : goal.returns-then-made
returns-then-made c =
    let may : MayWorkOn c.args.self.now.machine c.args.actor c.args.id = subst (λ o. IfNone o (MayWorkOn c.args.self.now.machine c.args.actor c.args.id)) c.in_default.is c.judge_deed.ensures.none in
    let are : AreChildrenOf c.args.self.now (word_of c.args.id c.args.self.now.machine.nodes) c.in-Some-2.children = subst (λ o. IfSome o (AreChildrenOf c.args.self.now (word_of c.args.id c.args.self.now.machine.nodes))) c.in-Some-2.is c.in_ok-children.ensures.some in
    let listed : c.as_slice-found.result.now ≡ c.in-Some-2.children = c.as_slice-found.ensures in
    let found : length (marks_of c.in-Some-2.children) ≡ length c.as_slice-found.result.now = length-map c.in-Some-2.children (λ (x : Child). x.mark) ∙ ap length (sym listed) in
    let made : c.made.result ≡ c.args.self.now.machine.made = c.made.ensures ∙ ap (λ (r : ReplayView). r.machine.made) c.children.ensures.same in
    number-broken c.args.self.now.problem c.args.self.now.limits c.args.self.now.machine c.args.actor c.args.id may (marks_of c.in-Some-2.children) c.args.made c.args.marks are.incomplete are.exact
    (λ given counted full. elim c.then-made.branch [
      | then-made-via-then-made w ↦ grind (arith, nat_tests, w.if-made, made, given)
      | then-made-via-else-made+then-marks-found w ↦ grind (arith, nat_tests, w.if-marks-found, found, counted)
      | then-made-via-else-made+else-marks-found+then-not-is_full w ↦ grind (arith, nat_tests, w.if-not-is_full, w.is_full.ensures, found, full, ap (λ (r : ReplayView). r.machine.made) c.children.ensures.same, ap (λ (r : ReplayView). r.limits.nodes) c.children.ensures.same)
    ])
