use Rattle.std.proofs.Common.{◌≡◌, ◌++◌}
use Rattle.pddl_tokens.specs.Trees.{trees_of, sizes}
use Rattle.pddl_problem.specs.Elements.{joined_words}
use Rattle.pddl_problem.proofs.elements.joined_words.Given as goal

abbrev pub invariant-words : goal.invariant-words
invariant-words l = l.text.items ++ joined_words (trees_of l.rest) ≡ joined_words (trees_of l.forms)

abbrev pub decreases-words : goal.decreases-words
decreases-words l = sizes (trees_of l.rest)
