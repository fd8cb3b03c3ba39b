use Rattle.std.proofs.Common.{◌≡◌, drop}
use Rattle.pddl_problem.specs.Known.{with_heads}
use Rattle.pddl_problem.proofs.known.with_heads.Given as goal

abbrev pub invariant-loop-head : goal.invariant-loop-head
invariant-loop-head l = with_heads l.table (drop l.head-index l.heads) ≡ with_heads l.fn.table l.heads
