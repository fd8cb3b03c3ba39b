use Rattle.std.proofs.Common.{◌≡◌, ◌+◌, length}
use Rattle.workload_run.specs.Summaries.{marks_in}
use Rattle.workload_run.proofs.summary.ids_of.Given as goal

abbrev pub invariant-loop-rest : goal.invariant-loop-rest
invariant-loop-rest l = l.ids + marks_in l.rest ≡ marks_in l.history + 1

abbrev pub decreases-loop-rest : goal.decreases-loop-rest
decreases-loop-rest l = length l.rest
