use Rattle.std.proofs.Common.{◌≡◌, not, length}
use Rattle.std.specs.List.{find}
use Rattle.tp_spec.specs.Courses.{in_range}
use Rattle.plan_validator.proofs.acts.first_length_out.Given as goal

abbrev pub invariant-loop-rest : goal.invariant-loop-rest
invariant-loop-rest l = find (λ x. not (in_range l.problem x.action x.length)) l.rest ≡ find (λ x. not (in_range l.problem x.action x.length)) l.acts

abbrev pub decreases-loop-rest : goal.decreases-loop-rest
decreases-loop-rest l = length l.rest
