use Rattle.std.proofs.Common.{◌≡◌, ◌++◌, drop}
use Rattle.pddl_problem.proofs.meaning.copies_of.Given as goal

abbrev pub invariant-loop-object : goal.invariant-loop-object
invariant-loop-object l = l.copies ++ drop l.object-index l.objects ≡ l.objects
