use Rattle.std.proofs.Common.{◌≡◌, []}
use Rattle.pddl_tokens.specs.Trees.{trees_of, sizes}
use Rattle.pddl_parts.specs.First.{first, earlier}
use Rattle.pddl_problem.specs.Outer.{sections_faults}
use Rattle.pddl_problem.proofs.outer.sections_fault.Given as goal

abbrev pub invariant-sections : goal.invariant-sections
invariant-sections l = earlier l.best (first (sections_faults l.domain l.close l.seen (trees_of l.rest))) ≡ first (sections_faults l.domain l.close [] (trees_of l.sections))

abbrev pub decreases-sections : goal.decreases-sections
decreases-sections l = sizes (trees_of l.rest)
