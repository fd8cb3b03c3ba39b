use Rattle.std.proofs.Common.{◌≡◌, ◌++◌}
use Rattle.pddl_tokens.specs.Trees.{trees_of, sizes}
use Rattle.pddl_problem.specs.Meaning.{values_of}
use Rattle.pddl_problem.proofs.meaning.values_of.Given as goal

abbrev pub invariant-elements : goal.invariant-elements
invariant-elements l = l.values ++ values_of l.symbols l.scale (trees_of l.rest) ≡ values_of l.symbols l.scale (trees_of l.members)

abbrev pub decreases-elements : goal.decreases-elements
decreases-elements l = sizes (trees_of l.rest)
