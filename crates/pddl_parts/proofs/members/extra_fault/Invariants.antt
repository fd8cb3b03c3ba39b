use Rattle.std.proofs.Common.{◌≡◌}
use Rattle.pddl_tokens.specs.Trees.{trees_of, sizes}
use Rattle.pddl_parts.specs.First.{first, earlier}
use Rattle.pddl_parts.specs.Members.{extra_faults}
use Rattle.pddl_parts.proofs.members.extra_fault.Given as goal

abbrev pub invariant-members : goal.invariant-members
invariant-members l = earlier l.best (first (extra_faults l.place (trees_of l.rest))) ≡ first (extra_faults l.place (trees_of l.forms))

abbrev pub decreases-members : goal.decreases-members
decreases-members l = sizes (trees_of l.rest)
