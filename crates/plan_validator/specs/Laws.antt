-- What verdicts say of validity.
use Rattle.std.specs.Prelude.{◌≡◌}
use Rattle.tp_spec.specs.declared.plan.Limits.{Limits}
use Rattle.tp_spec.specs.declared.plan.Plan.{Plan}
use Rattle.tp_spec.specs.declared.problem.Problem.{Problem}
use Rattle.tp_spec.specs.Courses as course
use Rattle.plan_validator.specs.declared.verdict.Verdict.{Verdict}
use Rattle.plan_validator.specs.declared.verdict.Verdict.TheVariants.{Valid}
use Rattle.plan_validator.specs.Verdicts.{IsVerdict}

-- A valid plan gets no other verdict: each other verdict names a part that is broken.
abbrev pub OnlyValidOfValid : Type 0
OnlyValidOfValid =
    (p : Problem) (l : Limits) (plan : Plan) (v : Verdict) → IsVerdict p l plan v
    → course.Valid p l plan → v ≡ Valid
