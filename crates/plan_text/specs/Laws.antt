-- What is written of a plan is read as that plan.
use Rattle.std.specs.Prelude.{◌≡◌, ◌+◌, ◌^◌, ◌<◌, Bool, ◌&&◌, ◌||◌, ◌==◌, nat_lt, ◌⊎◌, IsTrue, length, Result, Ok, Err}
use Rattle.std.specs.List.{list_all}
use Rattle.tp_spec.specs.Lists.{each_next}
use Rattle.tp_spec.specs.Courses.{act_before}
use Rattle.tp_spec.specs.Items.{is_durative}
use Rattle.tp_spec.specs.Texts.{plan_text}
use Rattle.tp_spec.specs.WellFormed.{IsWellFormed}
use Rattle.tp_spec.specs.declared.plan.Plan.{Plan}
use Rattle.tp_spec.specs.declared.plan.Timed.{Timed}
use Rattle.tp_spec.specs.declared.problem.Problem.{Problem}
use Rattle.plan_text.specs.declared.fault.PlanFault.{PlanFault}
use Rattle.plan_text.specs.Files.{IsReading}
use Rattle.plan_text.specs.declared.fault.PlanFault.TheVariants as faults

-- an act of the problem, of length 0 where its action is instant, that ends below 2^63
abbrev pub is_act_of : Problem → Timed → Bool
is_act_of p x =
    nat_lt x.action (length p.actions) && (is_durative p x.action || x.length == 0)
    && nat_lt (x.start + x.length) (2 ^ 63)

-- which plans their texts say wholly
pub record IsOrderly (p : Problem) (plan : Plan) : Type 0 where
  pub acts : IsTrue (list_all (is_act_of p) plan.acts)
  pub in_order : IsTrue (each_next act_before plan.acts)
  pub end : plan.end < 2 ^ 63

-- whatever a reader answers on the text of such a plan is that plan, unless memory is refused
abbrev pub ReadsBack : Type 0
ReadsBack = (p : Problem) (plan : Plan) → IsWellFormed p → IsOrderly p plan
    → (r : Result Plan PlanFault) → IsReading p (plan_text p plan) r
    → (r ≡ Ok plan) ⊎ (r ≡ Err faults.NoMemory)
