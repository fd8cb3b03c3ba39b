use Rattle.std.proofs.Common.{◌≡◌}
use Rattle.pddl_tokens.specs.Trees.{trees_of, sizes}
use Rattle.pddl_meaning.specs.Groups.{parent_behind}
use Rattle.pddl_meaning.proofs.groups.parent_behind.Given as goal

abbrev pub invariant-members : goal.invariant-members
invariant-members l = parent_behind l.types (trees_of l.rest) ≡ parent_behind l.types (trees_of l.forms)

abbrev pub decreases-members : goal.decreases-members
decreases-members l = sizes (trees_of l.rest)
