use Rattle.std.proofs.Common.{subst, suc, arith}
use Rattle.std.specs.Prelude.{IsTrue}
use Rattle.std.specs.List.{list_all}
use Rattle.tp_spec.specs.declared.plan.Limits.{Limits}
use Rattle.tp_spec.specs.declared.plan.Plan.{Plan}
use Rattle.tp_spec.specs.declared.problem.Problem.{Problem}
use Rattle.tp_spec.specs.Lists.{some_and}
use Rattle.tp_spec.specs.States.{holds}
use Rattle.tp_spec.specs.Courses.{Valid}
use Rattle.tp_laws.specs.Laws.{ReadsStates}
use Rattle.tp_laws.proofs.Readings.{state_before-spelled}
use Rattle.tp_laws.proofs.laws.states_read.Goals as goal

states : (p : Problem) (l : Limits) (plan : Plan) → Valid p l plan → ReadsStates p plan
states p l plan valid t up_to_end = state_before-spelled p plan.acts t (λ k below. (valid.course k (omega (arith, below, up_to_end))).exists)

pub returns-clause-course : goal.returns-clause-course
returns-clause-course c = states

pub returns-clause-goal : goal.returns-clause-goal
returns-clause-goal c p l plan valid =
    subst (λ o. IsTrue (some_and o (λ s. list_all (holds s) p.goal))) (states p l plan valid (suc plan.end) (omega arith)) valid.goal
