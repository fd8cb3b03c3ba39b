use Rattle.std.proofs.Common.{◌≡◌, []}
use Rattle.pddl_tokens.specs.Trees.{trees_of, sizes}
use Rattle.pddl_parts.specs.First.{first, earlier}
use Rattle.pddl_problem.specs.Again.{values_faults}
use Rattle.pddl_problem.proofs.again.values_fault.Given as goal

abbrev pub invariant-elements : goal.invariant-elements
invariant-elements l = earlier l.best (first (values_faults l.scale l.fluents l.values (trees_of l.rest))) ≡ first (values_faults l.scale [] [] (trees_of l.members))

abbrev pub decreases-elements : goal.decreases-elements
decreases-elements l = sizes (trees_of l.rest)
