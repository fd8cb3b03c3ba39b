use Rattle.tp_spec.specs.Machine.{state_of}
use Rattle.std.proofs.Common.{◌≡◌}
use Rattle.serial_runs.specs.Commands.{PutsAll}
use Rattle.serial_runs.specs.OneWorker.{IsGoing, left_of}
use Rattle.serial_runs.proofs.alone.search.Given as goal

abbrev pub invariant-jobs : goal.invariant-jobs
invariant-jobs g l = IsGoing l.problem l.fn.tree l.tree × (l.worker ≡ l.problem)
    × PutsAll l.problem l.tree.limits l.tree.history (g.O.Sink.view l.fn.out) (g.O.Sink.view l.out)

abbrev pub decreases-jobs : goal.decreases-jobs
decreases-jobs g l = left_of l.tree.limits (state_of l.tree.limits l.tree.history)
