use Rattle.std.proofs.Common.{◌≡◌, ◌++◌}
use Rattle.pddl_tokens.specs.Trees.{trees_of, sizes}
use Rattle.pddl_meaning.specs.Terms.{terms_of}
use Rattle.pddl_meaning.proofs.terms.terms_of.Given as goal

abbrev pub invariant-terms : goal.invariant-terms
invariant-terms l = l.terms ++ terms_of l.symbols l.variables (trees_of l.rest) ≡ terms_of l.symbols l.variables (trees_of l.forms)

abbrev pub decreases-terms : goal.decreases-terms
decreases-terms l = sizes (trees_of l.rest)
