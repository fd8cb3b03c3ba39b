use Rattle.std.proofs.Common.{◌≡◌, ◌++◌}
use Rattle.pddl_tokens.specs.Trees.{trees_of, sizes}
use Rattle.pddl_problem.specs.Meaning.{facts_of}
use Rattle.pddl_problem.proofs.meaning.facts_of.Given as goal

abbrev pub invariant-elements : goal.invariant-elements
invariant-elements l = l.facts ++ facts_of l.symbols (trees_of l.rest) ≡ facts_of l.symbols (trees_of l.members)

abbrev pub decreases-elements : goal.decreases-elements
decreases-elements l = sizes (trees_of l.rest)
