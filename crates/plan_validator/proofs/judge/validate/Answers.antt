use Rattle.std.proofs.Common.{◌≡◌, List, not, ap, sym, subst, refl, ◌∙◌}
use Rattle.tp_spec.specs.declared.plan.Timed.{Timed}
use Rattle.plan_validator.specs.declared.tick.Judged.{Judged}
use Rattle.plan_validator.specs.Course.{IsCourse, IsFaultUpTo, IsThrough}
use Rattle.plan_validator.proofs.Judgement.{acts_whole, ends_from, tick_verdict, goal_verdict, valid_verdict}
use Rattle.plan_validator.proofs.judge.validate.Goals as goal

pub returns-then-not-ends_well : goal.returns-then-not-ends_well
returns-then-not-ends_well c = record {
  acts = acts_whole c.args.problem.now c.args.limits.now c.as_slice-acts.result.now c.args.plan.now.acts c.in_ok-fault.field-0 c.as_slice-acts.ensures c.in_default.is c.in_ok-fault.ensures;
  stated = refl;
  broken = ap not (sym (ends_from c.args.problem.now c.args.limits.now c.args.plan.now c.as_slice-acts.result.now c.in_ok-standings.standings.items c.deref.result.now c.ends_well.result
      c.as_slice-acts.ensures c.deref.ensures.value c.in_ok-standings.ensures c.ends_well.ensures) ∙ c.if-not-ends_well.true);
}

pub returns-in-Fault : goal.returns-in-Fault
returns-in-Fault c =
    let course : IsCourse c.args.problem.now c.as_slice-acts.result.now c.args.plan.now.end c.in_ok-verdict.field-0 = c.in_ok-verdict.ensures in
    let fault : IsFaultUpTo c.args.problem.now c.as_slice-acts.result.now c.args.plan.now.end c.in-Fault.verdict =
    subst (λ (j : Judged). IsCourse c.args.problem.now c.as_slice-acts.result.now c.args.plan.now.end j) c.in-Fault.is course in
    tick_verdict c.args.problem.now c.args.limits.now c.args.plan.now c.in-Fault.verdict
    (acts_whole c.args.problem.now c.args.limits.now c.as_slice-acts.result.now c.args.plan.now.acts c.in_ok-fault.field-0 c.as_slice-acts.ensures c.in_default.is c.in_ok-fault.ensures)
    (sym (ends_from c.args.problem.now c.args.limits.now c.args.plan.now c.as_slice-acts.result.now c.in_ok-standings.standings.items c.deref.result.now c.ends_well.result
    c.as_slice-acts.ensures c.deref.ensures.value c.in_ok-standings.ensures c.ends_well.ensures) ∙ c.if-not-ends_well.false)
    (subst (λ (acts : List Timed). IsFaultUpTo c.args.problem.now acts c.args.plan.now.end c.in-Fault.verdict) c.as_slice-acts.ensures fault)

pub returns-in-Some-first_unmet_part : goal.returns-in-Some-first_unmet_part
returns-in-Some-first_unmet_part c =
    let course : IsCourse c.args.problem.now c.as_slice-acts.result.now c.args.plan.now.end c.in_ok-verdict.field-0 = c.in_ok-verdict.ensures in
    let through : IsThrough c.args.problem.now c.as_slice-acts.result.now c.args.plan.now.end c.in-Passed.state =
    subst (λ (j : Judged). IsCourse c.args.problem.now c.as_slice-acts.result.now c.args.plan.now.end j) c.in-Passed.is course in
    goal_verdict c.args.problem.now c.args.limits.now c.args.plan.now c.in-Passed.state c.in-Some-first_unmet_part.part
    (acts_whole c.args.problem.now c.args.limits.now c.as_slice-acts.result.now c.args.plan.now.acts c.in_ok-fault.field-0 c.as_slice-acts.ensures c.in_default.is c.in_ok-fault.ensures)
    (sym (ends_from c.args.problem.now c.args.limits.now c.args.plan.now c.as_slice-acts.result.now c.in_ok-standings.standings.items c.deref.result.now c.ends_well.result
    c.as_slice-acts.ensures c.deref.ensures.value c.in_ok-standings.ensures c.ends_well.ensures) ∙ c.if-not-ends_well.false)
    (subst (λ (acts : List Timed). IsThrough c.args.problem.now acts c.args.plan.now.end c.in-Passed.state) c.as_slice-acts.ensures through)
    c.in-Some-first_unmet_part.ensures

pub returns : goal.returns
returns c =
    let course : IsCourse c.args.problem.now c.as_slice-acts.result.now c.args.plan.now.end c.in_ok-verdict.field-0 = c.in_ok-verdict.ensures in
    let through : IsThrough c.args.problem.now c.as_slice-acts.result.now c.args.plan.now.end c.in-Passed.state =
    subst (λ (j : Judged). IsCourse c.args.problem.now c.as_slice-acts.result.now c.args.plan.now.end j) c.in-Passed.is course in
    valid_verdict c.args.problem.now c.args.limits.now c.args.plan.now c.in-Passed.state c.requires.in_order
    (acts_whole c.args.problem.now c.args.limits.now c.as_slice-acts.result.now c.args.plan.now.acts c.in_ok-fault.field-0 c.as_slice-acts.ensures c.in_default.is c.in_ok-fault.ensures)
    (sym (ends_from c.args.problem.now c.args.limits.now c.args.plan.now c.as_slice-acts.result.now c.in_ok-standings.standings.items c.deref.result.now c.ends_well.result
    c.as_slice-acts.ensures c.deref.ensures.value c.in_ok-standings.ensures c.ends_well.ensures) ∙ c.if-not-ends_well.false)
    (subst (λ (acts : List Timed). IsThrough c.args.problem.now acts c.args.plan.now.end c.in-Passed.state) c.as_slice-acts.ensures through)
    c.in-None.ensures
