use Rattle.std.proofs.Common.{◌≡◌, ◌++◌, drop}
use Rattle.word_rows.specs.Rows.{timed_bounds}
use Rattle.word_network.proofs.bounds.push_timed.Given as goal

abbrev pub invariant-loop-i : goal.invariant-loop-i
invariant-loop-i l = l.bounds.items ++ timed_bounds (drop l.i l.timed) (drop l.i l.problem.timed) ≡ l.fn.bounds.items ++ timed_bounds l.timed l.problem.timed
