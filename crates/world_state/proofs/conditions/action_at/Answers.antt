use Rattle.std.proofs.Common.{◌∙◌, ap, subst}
use Rattle.tp_spec.specs.WellFormed.{IsWellFormed}
use Rattle.world_state.proofs.Problems.{found_exact}
use Rattle.world_state.proofs.conditions.action_at.Goals as goal

pub returns-clause-exact : goal.returns-clause-exact
returns-clause-exact c =
    found_exact c.args.problem.now (subst IsWellFormed c.problem.view_is c.problem.invariant) c.as_slice.result.now c.args.action c.get.result
    (c.as_slice.ensures ∙ ap (λ q. q.actions) c.problem.view_is) c.get.ensures.lookup.0 c.get.ensures.lookup.1
