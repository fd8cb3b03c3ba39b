use Rattle.std.proofs.Common.{◌≡◌, ◌++◌, length}
use Rattle.std.specs.List.{filter}
use Rattle.plan_validator.specs.Watched.{is_watched, begun_at}
use Rattle.plan_validator.proofs.running.take_in.Given as goal

abbrev pub invariant-loop-rest : goal.invariant-loop-rest
invariant-loop-rest l = l.running.items ++ filter (is_watched l.problem) (begun_at l.tick l.rest) ≡ l.fn.running.items ++ filter (is_watched l.problem) (begun_at l.tick l.coming)

abbrev pub decreases-loop-rest : goal.decreases-loop-rest
decreases-loop-rest l = length l.rest
