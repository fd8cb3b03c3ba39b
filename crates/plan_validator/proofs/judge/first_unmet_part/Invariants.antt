use Rattle.std.proofs.Common.{◌≡◌, take, IsTrue}
use Rattle.std.specs.List.{list_all}
use Rattle.tp_spec.specs.States.{holds}
use Rattle.world_state.specs.View.{meaning}
use Rattle.plan_validator.proofs.judge.first_unmet_part.Given as goal

abbrev pub invariant-loop-part : goal.invariant-loop-part
invariant-loop-part l = IsTrue (list_all (holds (meaning l.state)) (take l.part l.problem.goal))
