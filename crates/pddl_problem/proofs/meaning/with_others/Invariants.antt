use Rattle.std.proofs.Common.{◌≡◌, ◌++◌, drop}
use Rattle.pddl_problem.specs.Meaning.{without}
use Rattle.pddl_problem.proofs.meaning.with_others.Given as goal

abbrev pub invariant-loop-object : goal.invariant-loop-object
invariant-loop-object l = l.list ++ without l.names (drop l.object-index l.objects) ≡ l.fn.list ++ without l.names l.objects
