use Rattle.std.proofs.Common.{◌≡◌, ◌++◌}
use Rattle.pddl_tokens.specs.Trees.{trees_of, sizes}
use Rattle.pddl_problem.specs.Meaning.{timed_of}
use Rattle.pddl_problem.proofs.meaning.timed_of.Given as goal

abbrev pub invariant-elements : goal.invariant-elements
invariant-elements l = l.timed ++ timed_of l.symbols l.scale (trees_of l.rest) ≡ timed_of l.symbols l.scale (trees_of l.members)

abbrev pub decreases-elements : goal.decreases-elements
decreases-elements l = sizes (trees_of l.rest)
