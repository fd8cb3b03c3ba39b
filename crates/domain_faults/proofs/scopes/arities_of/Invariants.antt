use Rattle.std.proofs.Common.{◌≡◌}
use Rattle.pddl_tokens.specs.Trees.{trees_of, sizes}
use Rattle.domain_faults.specs.Scopes.{with_arities, arities_of}
use Rattle.domain_faults.proofs.scopes.arities_of.Given as goal

abbrev pub invariant-heads : goal.invariant-heads
invariant-heads l = with_arities l.kind l.table l.part (trees_of l.rest) ≡ arities_of l.kind (trees_of l.members)

abbrev pub decreases-heads : goal.decreases-heads
decreases-heads l = sizes (trees_of l.rest)
