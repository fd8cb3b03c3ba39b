use Rattle.std.proofs.Common.{◌≡◌}
use Rattle.pddl_tokens.specs.Trees.{trees_of, sizes}
use Rattle.pddl_parts.specs.First.{first, earlier}
use Rattle.pddl_parts.specs.Settings.{setting_of}
use Rattle.pddl_problem.specs.Literals.{arguments_faults}
use Rattle.pddl_problem.proofs.literals.arguments_fault.Given as goal

abbrev pub invariant-arguments : goal.invariant-arguments
invariant-arguments l = earlier l.best (first (arguments_faults (setting_of l.context) (trees_of l.rest))) ≡ first (arguments_faults (setting_of l.context) (trees_of l.forms))

abbrev pub decreases-arguments : goal.decreases-arguments
decreases-arguments l = sizes (trees_of l.rest)
