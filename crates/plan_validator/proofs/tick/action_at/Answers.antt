use Rattle.std.proofs.Common.{◌∙◌, ap, subst}
use Rattle.tp_spec.specs.WellFormed.{IsWellFormed}
use Rattle.plan_validator.proofs.Ticks.{found_shallow}
use Rattle.plan_validator.proofs.tick.action_at.Goals as goal

pub returns-clause-shallow : goal.returns-clause-shallow
returns-clause-shallow c =
    found_shallow c.args.problem.now (subst IsWellFormed c.problem.view_is c.problem.invariant) c.as_slice.result.now c.args.action c.get.result
    (c.as_slice.ensures ∙ ap (λ q. q.actions) c.problem.view_is) c.get.ensures.lookup.0 c.get.ensures.lookup.1
