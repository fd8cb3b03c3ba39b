use Rattle.std.proofs.Common.{◌≡◌}
use Rattle.pddl_tokens.specs.Trees.{trees_of, sizes}
use Rattle.pddl_parts.specs.Members.{members_of}
use Rattle.pddl_parts.proofs.members.members_of.Given as goal

abbrev pub invariant-sections : goal.invariant-sections
invariant-sections l = members_of l.head (trees_of l.rest) ≡ members_of l.head (trees_of l.sections)

abbrev pub decreases-sections : goal.decreases-sections
decreases-sections l = sizes (trees_of l.rest)
