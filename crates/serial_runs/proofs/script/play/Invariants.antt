use Rattle.std.proofs.Common.{◌≡◌, ◌≤◌, ◌^◌, length}
use Rattle.serial_runs.specs.Commands.{PutsAll}
use Rattle.serial_runs.specs.Playing.{IsAtLine}
use Rattle.serial_runs.proofs.script.play.Given as goal

abbrev pub invariant-lines : goal.invariant-lines
invariant-lines g l = IsAtLine l.problem l.fn.tree l.tree l.script l.rest l.held × (l.worker ≡ l.problem)
    × PutsAll l.problem l.tree.limits l.tree.history (g.O.Sink.view l.fn.out) (g.O.Sink.view l.out)
    × (length l.script ≤ 2 ^ 64)

abbrev pub decreases-lines : goal.decreases-lines
decreases-lines g l = length l.rest
