use Rattle.std.proofs.Common.{◌≡◌, refl, sym, ap, subst, ◌∙◌, Option, Some, IfSome}
use Rattle.std.specs.Option.{option_map}
use Rattle.tp_spec.specs.Items.{after}
use Rattle.world_state.specs.View.{StateView, meaning, IsStateOf}
use Rattle.plan_validator.proofs.Ticks.{unmet_at, over_at, broken_at, passed_at, leads_to}
use Rattle.plan_validator.proofs.Watched.{broken_by_all}
use Rattle.plan_validator.proofs.tick.judge_tick.Goals as goal

pub returns-in-Some-first_unmet : goal.returns-in-Some-first_unmet
returns-in-Some-first_unmet c = λ acts here running before. (
  refl,
  unmet_at c.args.problem.now acts c.args.tick (meaning c.args.state.now) c.args.here.now here before
      (sym (c.in_default.ensures c.args.problem.now c.requires.tables)) c.in-Some-first_unmet.item (sym c.in-Some-first_unmet.ensures),
)

pub returns-in_default-2 : goal.returns-in_default-2
returns-in_default-2 c = λ acts here running before. (
  refl,
  over_at c.args.problem.now acts c.args.tick (meaning c.args.state.now) c.args.here.now here before
      (sym (c.in_default.ensures c.args.problem.now c.requires.tables)) c.in_ok-fluent.fluent (sym c.in_default-first_unmet.ensures) (sym c.in_ok-next.ensures.is ∙ ap (option_map meaning) c.in_default-2.is) c.in_ok-fluent.ensures,
)

pub returns-in-Some-first_broken : goal.returns-in-Some-first_broken
returns-in-Some-first_broken c = λ acts here running before.
    let leads : after c.args.problem.now (meaning c.args.state.now) c.args.here.now ≡ Some (meaning c.in-Some-2.next) =
    sym c.in_ok-next.ensures.is ∙ ap (option_map meaning) c.in-Some-2.is in (
      refl,
      broken_at c.args.problem.now acts c.args.tick (meaning c.args.state.now) c.args.here.now here before
          (sym (c.in_default.ensures c.args.problem.now c.requires.tables)) c.in-Some-first_broken.action (meaning c.in-Some-2.next) (sym c.in_default-first_unmet.ensures) leads (broken_by_all c.args.problem.now acts c.args.running.now c.args.tick (meaning c.in-Some-2.next) c.in-Some-first_broken.action running c.in-Some-first_broken.ensures),
    )

pub returns-in-None : goal.returns-in-None
returns-in-None c = λ acts here running before.
    let leads : after c.args.problem.now (meaning c.args.state.now) c.args.here.now ≡ Some (meaning c.in-Some-2.next) =
    sym c.in_ok-next.ensures.is ∙ ap (option_map meaning) c.in-Some-2.is in
    record {
      passes = passed_at c.args.problem.now acts c.args.tick (meaning c.args.state.now) c.args.here.now here before
          (sym (c.in_default.ensures c.args.problem.now c.requires.tables)) (meaning c.in-Some-2.next) (sym c.in_default-first_unmet.ensures) leads (λ a. sym (running (meaning c.in-Some-2.next) a) ∙ c.in-None.ensures a);
      leads = leads_to c.args.problem.now acts c.args.tick (meaning c.args.state.now) c.args.here.now here before
          (sym (c.in_default.ensures c.args.problem.now c.requires.tables)) (meaning c.in-Some-2.next) leads;
      of_problem = subst (λ (o : Option StateView). IfSome o (λ v. IsStateOf c.args.problem.now v)) c.in-Some-2.is c.in_ok-next.ensures.of_problem;
    }
