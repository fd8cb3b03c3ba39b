use Rattle.std.proofs.Common.{rules, ◌≡◌, ◌∙◌, sym, ap, subst}
use Rattle.std.proofs.lemmas.Bool.{eqb-true, false≢true}
use Rattle.tp_spec.specs.declared.plan.Plan.{Plan}
use Rattle.tp_spec.specs.Machine.{word_of}
use Rattle.situated_machine.specs.Marked.{HasNoPlan, sight_of}
use Rattle.situated_machine.specs.Rules.{IsPlanOf}
use Rattle.situated_machine.proofs.Marking.{acts-decide, its-plan, no-plan, one-by-parts, other-plan, whole-told}
use Rattle.situated_machine.proofs.keeping.Replayer.is_plan.Goals as goal
use Rattle.situated_machine.proofs.keeping.Replayer.is_plan.Goals.{then-own-plan, else-own-plan}

pub plan_of-requires-clause-whole : goal.plan_of-requires-clause-whole
plan_of-requires-clause-whole c =
    let same : c.as_slice.result.now ≡ c.as_slice-2.result.now = search rules in
    whole-told c.growth.new.self c.args.self.now c.growth.ensures.same c.as_slice.result.now c.as_slice-2.result.now same c.in_ok-growth.growth c.in_ok-growth.ensures.growth

pub returns-clause-no : goal.returns-clause-no
returns-clause-no c _ =
    let same : c.as_slice-2.result.now ≡ c.in_ok-word.word.items = search rules in
    let none : HasNoPlan (sight_of c.growth.new.self c.as_slice-2.result.now) = rw c.in-None.is at c.in_ok-own.ensures.none in
    no-plan c.growth.new.self c.args.self.now c.growth.ensures.same c.args.id c.as_slice-2.result.now (same ∙ c.in_ok-word.ensures.word) none c.args.plan.now

pub returns-in-Some-clause-yes : goal.returns-in-Some-clause-yes
returns-in-Some-clause-yes c passes = elim c.if-own-plan.branch [
  | then-own-plan w ↦
      let same : c.as_slice-2.result.now ≡ c.in_ok-word.word.items = search rules in
      let own : IsPlanOf c.growth.new.self.problem c.growth.new.self.limits c.growth.new.self.machine c.as_slice-2.result.now c.in-Some.own = rw c.in-Some.is at c.in_ok-own.ensures.some in
      let left : w.as_slice-then-own-plan.result.now ≡ c.in-Some.own.acts = search rules in
      let right : w.as_slice-then-own-plan-2.result.now ≡ c.args.plan.now.acts = search rules in
      let acts = (acts-decide w.as_slice-then-own-plan.result.now w.as_slice-then-own-plan-2.result.now w.eq.result w.eq.ensures).0 (sym w.result-is ∙ passes) in
      subst (IsPlanOf c.args.self.now.problem c.args.self.now.limits c.args.self.now.machine (word_of c.args.id c.args.self.now.machine.nodes)) (one-by-parts c.in-Some.own c.args.plan.now (sym left ∙ acts ∙ right) w.if-own-plan.true)
      (its-plan c.growth.new.self c.args.self.now c.growth.ensures.same c.args.id c.as_slice-2.result.now (same ∙ c.in_ok-word.ensures.word) c.in-Some.own own)
  | else-own-plan w ↦ absurd (w.if-own-plan.false (eqb-true c.in-Some.own.end c.args.plan.now.end (sym w.result-is ∙ passes)))
]

pub returns-in-Some-clause-no : goal.returns-in-Some-clause-no
returns-in-Some-clause-no c fails =
    let same : c.as_slice-2.result.now ≡ c.in_ok-word.word.items = search rules in
    let own : IsPlanOf c.growth.new.self.problem c.growth.new.self.limits c.growth.new.self.machine c.as_slice-2.result.now c.in-Some.own = rw c.in-Some.is at c.in_ok-own.ensures.some in
    other-plan c.growth.new.self c.args.self.now c.growth.ensures.same c.args.id c.as_slice-2.result.now (same ∙ c.in_ok-word.ensures.word) c.in_ok-word.ensures.known.formed c.in-Some.own c.args.plan.now own
    (λ one. elim c.if-own-plan.branch [
      | then-own-plan w ↦
          let left : w.as_slice-then-own-plan.result.now ≡ c.in-Some.own.acts = search rules in
          let right : w.as_slice-then-own-plan-2.result.now ≡ c.args.plan.now.acts = search rules in
          false≢true (sym fails ∙ w.result-is ∙ (acts-decide w.as_slice-then-own-plan.result.now w.as_slice-then-own-plan-2.result.now w.eq.result w.eq.ensures).1 (left ∙ ap (λ (p : Plan). p.acts) one ∙ sym right))
      | else-own-plan w ↦ w.if-own-plan.false (ap (λ (p : Plan). p.end) one)
    ])
