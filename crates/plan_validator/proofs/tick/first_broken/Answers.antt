use Rattle.std.proofs.Common.{◌≡◌, ℕ, ◌+◌, Option, Some, subst, sym, ◌∙◌, take, get_or}
use Rattle.tp_spec.specs.declared.plan.Timed.{Timed}
use Rattle.world_state.specs.View.{meaning}
use Rattle.plan_validator.specs.Course.{IsFirstBroken}
use Rattle.plan_validator.proofs.Ticks.{IsLeast, least_kept, least_more}
use Rattle.plan_validator.proofs.tick.first_broken.Goals.{then-is_broken, else-is_broken}
use Rattle.plan_validator.proofs.tick.first_broken.Goals as goal

abbrev none : Timed
none = record { action = 0; start = 0; length = 0 }

pub loop-act-preserved : goal.loop-act-preserved
loop-act-preserved c = elim c.if-is_broken.branch [
  | then-is_broken w ↦
      subst (λ (o : Option ℕ). IsLeast c.args.problem.now (take (c.loop-act.act-index + 1) c.args.acts.now) c.args.tick (meaning c.args.state.now) o) (sym w.first-is)
      (subst (λ (m : ℕ). IsFirstBroken c.args.problem.now (take (c.loop-act.act-index + 1) c.args.acts.now) c.args.tick (meaning c.args.state.now) m) (sym w.lesser.ensures)
      (least_more c.args.problem.now c.args.acts.now c.args.tick (meaning c.args.state.now) c.loop-act.act-index none c.loop-act.first c.loop-act-test.true (sym c.is_broken.ensures ∙ w.if-is_broken.true) c.loop-act.invariant))
  | else-is_broken w ↦
      subst (λ (o : Option ℕ). IsLeast c.args.problem.now (take (c.loop-act.act-index + 1) c.args.acts.now) c.args.tick (meaning c.args.state.now) o) (sym w.first-is)
      (least_kept c.args.problem.now c.args.acts.now c.args.tick (meaning c.args.state.now) c.loop-act.act-index none c.loop-act.first c.loop-act-test.true (sym c.is_broken.ensures ∙ w.if-is_broken.false) c.loop-act.invariant)
]
