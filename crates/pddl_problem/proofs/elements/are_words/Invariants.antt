use Rattle.std.proofs.Common.{◌≡◌}
use Rattle.pddl_tokens.specs.Trees.{trees_of, sizes}
use Rattle.pddl_problem.specs.Elements.{are_words}
use Rattle.pddl_problem.proofs.elements.are_words.Given as goal

abbrev pub invariant-members : goal.invariant-members
invariant-members l = are_words (trees_of l.rest) ≡ are_words (trees_of l.forms)

abbrev pub decreases-members : goal.decreases-members
decreases-members l = sizes (trees_of l.rest)
