use Rattle.std.proofs.Common.{◌≡◌}
use Rattle.pddl_tokens.specs.Trees.{trees_of, sizes}
use Rattle.pddl_parts.specs.First.{first, earlier}
use Rattle.pddl_parts.specs.Settings.{setting_of}
use Rattle.pddl_problem.specs.Passes.{sections_faults}
use Rattle.pddl_problem.proofs.passes.sections_fault.Given as goal

abbrev pub invariant-sections : goal.invariant-sections
invariant-sections l = earlier l.best (first (sections_faults (setting_of l.context) (trees_of l.rest))) ≡ first (sections_faults (setting_of l.context) (trees_of l.sections))

abbrev pub decreases-sections : goal.decreases-sections
decreases-sections l = sizes (trees_of l.rest)
