use Rattle.std.proofs.Common.{◌≡◌, drop}
use Rattle.pddl_problem.specs.Meaning.{with_head_names}
use Rattle.pddl_problem.proofs.meaning.with_head_names.Given as goal

abbrev pub invariant-loop-head : goal.invariant-loop-head
invariant-loop-head l = with_head_names l.names (drop l.head-index l.heads) ≡ with_head_names l.fn.names l.heads
