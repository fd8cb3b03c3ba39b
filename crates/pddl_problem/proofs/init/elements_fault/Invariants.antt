use Rattle.std.proofs.Common.{◌≡◌}
use Rattle.pddl_tokens.specs.Trees.{trees_of, sizes}
use Rattle.pddl_parts.specs.First.{first, earlier}
use Rattle.pddl_parts.specs.Settings.{setting_of}
use Rattle.pddl_problem.specs.Init.{elements_faults}
use Rattle.pddl_problem.proofs.init.elements_fault.Given as goal

abbrev pub invariant-elements : goal.invariant-elements
invariant-elements l = earlier l.best (first (elements_faults (setting_of l.context) (trees_of l.rest))) ≡ first (elements_faults (setting_of l.context) (trees_of l.members))

abbrev pub decreases-elements : goal.decreases-elements
decreases-elements l = sizes (trees_of l.rest)
