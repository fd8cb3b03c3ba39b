use Rattle.std.proofs.Common.{◌≡◌}
use Rattle.pddl_tokens.specs.Trees.{trees_of, sizes}
use Rattle.pddl_parts.specs.First.{first, earlier}
use Rattle.pddl_parts.specs.Settings.{setting_of}
use Rattle.domain_faults.specs.Durations.{constraints_faults}
use Rattle.domain_faults.proofs.durations.constraints_fault.Given as goal

abbrev pub invariant-bounds : goal.invariant-bounds
invariant-bounds l = earlier l.best (first (constraints_faults (setting_of l.context) (trees_of l.rest))) ≡ first (constraints_faults (setting_of l.context) (trees_of l.forms))

abbrev pub decreases-bounds : goal.decreases-bounds
decreases-bounds l = sizes (trees_of l.rest)
