use Rattle.std.proofs.Common.{◌≡◌, []}
use Rattle.pddl_tokens.specs.Trees.{trees_of, sizes}
use Rattle.pddl_parts.specs.First.{first, earlier}
use Rattle.pddl_problem.specs.Again.{clashes_faults}
use Rattle.pddl_problem.proofs.again.clashes_fault.Given as goal

abbrev pub invariant-elements : goal.invariant-elements
invariant-elements l = earlier l.best (first (clashes_faults l.scale l.begun l.ended (trees_of l.rest))) ≡ first (clashes_faults l.scale [] [] (trees_of l.members))

abbrev pub decreases-elements : goal.decreases-elements
decreases-elements l = sizes (trees_of l.rest)
