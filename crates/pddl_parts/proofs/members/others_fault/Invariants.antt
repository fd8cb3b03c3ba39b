use Rattle.std.proofs.Common.{◌≡◌}
use Rattle.pddl_tokens.specs.Trees.{trees_of, sizes}
use Rattle.pddl_parts.specs.First.{first, earlier}
use Rattle.pddl_parts.specs.Members.{others_faults}
use Rattle.pddl_parts.proofs.members.others_fault.Given as goal

abbrev pub invariant-forms : goal.invariant-forms
invariant-forms l = earlier l.best (first (others_faults (trees_of l.rest))) ≡ first (others_faults (trees_of l.forms))

abbrev pub decreases-forms : goal.decreases-forms
decreases-forms l = sizes (trees_of l.rest)
