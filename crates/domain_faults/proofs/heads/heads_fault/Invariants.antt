use Rattle.std.proofs.Common.{◌≡◌, []}
use Rattle.pddl_tokens.specs.Trees.{trees_of, sizes}
use Rattle.pddl_parts.specs.declared.typed.Part.TheVariants.{Start}
use Rattle.pddl_parts.specs.First.{first, earlier}
use Rattle.domain_faults.specs.Heads.{heads_faults}
use Rattle.domain_faults.proofs.heads.heads_fault.Given as goal

abbrev pub invariant-members : goal.invariant-members
invariant-members l = earlier l.best (first (heads_faults l.kind l.types l.close l.seen l.part (trees_of l.rest))) ≡ first (heads_faults l.kind l.types l.close [] Start (trees_of l.forms))

abbrev pub decreases-members : goal.decreases-members
decreases-members l = sizes (trees_of l.rest)
