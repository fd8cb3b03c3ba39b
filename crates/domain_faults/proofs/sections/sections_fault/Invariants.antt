use Rattle.std.proofs.Common.{◌≡◌, []}
use Rattle.pddl_tokens.specs.Trees.{trees_of, sizes}
use Rattle.pddl_parts.specs.First.{first, earlier}
use Rattle.domain_faults.specs.Sections.{sections_faults}
use Rattle.domain_faults.proofs.sections.sections_fault.Given as goal

abbrev pub invariant-sections : goal.invariant-sections
invariant-sections l = earlier l.best (first (sections_faults l.types l.seen (trees_of l.rest))) ≡ first (sections_faults l.types [] (trees_of l.sections))

abbrev pub decreases-sections : goal.decreases-sections
decreases-sections l = sizes (trees_of l.rest)
