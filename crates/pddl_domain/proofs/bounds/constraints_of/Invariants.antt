use Rattle.std.proofs.Common.{◌≡◌, ◌++◌}
use Rattle.pddl_tokens.specs.Trees.{trees_of, sizes}
use Rattle.pddl_domain.specs.Bounds.{constraints_of}
use Rattle.pddl_domain.proofs.bounds.constraints_of.Given as goal

abbrev pub invariant-bounds : goal.invariant-bounds
invariant-bounds l = l.bounds ++ constraints_of l.symbols l.variables l.scale (trees_of l.rest) ≡ constraints_of l.symbols l.variables l.scale (trees_of l.forms)

abbrev pub decreases-bounds : goal.decreases-bounds
decreases-bounds l = sizes (trees_of l.rest)
