use Rattle.std.proofs.Common.{◌≡◌}
use Rattle.pddl_tokens.specs.Trees.{trees_of, sizes}
use Rattle.pddl_parts.specs.declared.typed.Part.TheVariants.{Start}
use Rattle.pddl_parts.specs.First.{first, earlier}
use Rattle.pddl_parts.specs.Typed.{typed_faults}
use Rattle.pddl_parts.proofs.typed.typed_fault.Given as goal

abbrev pub invariant-members : goal.invariant-members
invariant-members l = earlier l.best (first (typed_faults l.rule l.types l.close l.part (trees_of l.rest))) ≡ first (typed_faults l.rule l.types l.close Start (trees_of l.forms))

abbrev pub decreases-members : goal.decreases-members
decreases-members l = sizes (trees_of l.rest)
