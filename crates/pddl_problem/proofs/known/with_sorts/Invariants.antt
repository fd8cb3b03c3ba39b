use Rattle.std.proofs.Common.{◌≡◌, drop}
use Rattle.pddl_problem.specs.Known.{with_sorts}
use Rattle.pddl_problem.proofs.known.with_sorts.Given as goal

abbrev pub invariant-loop-sort : goal.invariant-loop-sort
invariant-loop-sort l = with_sorts l.names (drop l.sort-index l.sorts) ≡ with_sorts l.fn.names l.sorts
