use Rattle.std.proofs.Common.{◌≡◌}
use Rattle.pddl_tokens.specs.Trees.{trees_of, sizes}
use Rattle.pddl_parts.specs.First.{first, earlier}
use Rattle.pddl_parts.specs.Settings.{setting_of}
use Rattle.pddl_parts.specs.Atoms.{terms_faults}
use Rattle.pddl_parts.proofs.atoms.terms_fault.Given as goal

abbrev pub invariant-terms : goal.invariant-terms
invariant-terms l = earlier l.best (first (terms_faults (setting_of l.context) (trees_of l.rest))) ≡ first (terms_faults (setting_of l.context) (trees_of l.forms))

abbrev pub decreases-terms : goal.decreases-terms
decreases-terms l = sizes (trees_of l.rest)
