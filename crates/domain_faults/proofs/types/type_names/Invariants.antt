use Rattle.std.proofs.Common.{◌≡◌}
use Rattle.pddl_tokens.specs.Trees.{trees_of, sizes}
use Rattle.domain_faults.specs.Types.{type_names, with_types}
use Rattle.domain_faults.proofs.types.type_names.Given as goal

abbrev pub invariant-members : goal.invariant-members
invariant-members l = with_types l.names (trees_of l.rest) ≡ type_names (trees_of l.members)

abbrev pub decreases-members : goal.decreases-members
decreases-members l = sizes (trees_of l.rest)
