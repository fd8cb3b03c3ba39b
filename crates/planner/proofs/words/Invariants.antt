use Rattle.std.proofs.Common.{◌+◌, ◌≤◌, length}
use Rattle.planner.proofs.words.Given as goal

abbrev pub invariant-loop-number : goal.invariant-loop-number
invariant-loop-number g l = length l.words.items + 1 ≤ l.number
