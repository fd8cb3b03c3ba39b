use Rattle.std.proofs.Common.{◌≡◌}
use Rattle.pddl_tokens.specs.Trees.{trees_of, sizes}
use Rattle.pddl_parts.specs.First.{first, earlier}
use Rattle.domain_faults.specs.Cycles.{marked_faults}
use Rattle.domain_faults.proofs.cycles.marked_fault.Given as goal

abbrev pub invariant-members : goal.invariant-members
invariant-members l = earlier l.best (first (marked_faults l.types l.marks (trees_of l.rest))) ≡ first (marked_faults l.types l.marks (trees_of l.members))

abbrev pub decreases-members : goal.decreases-members
decreases-members l = sizes (trees_of l.rest)
