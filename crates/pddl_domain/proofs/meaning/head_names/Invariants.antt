use Rattle.std.proofs.Common.{◌≡◌, ◌++◌}
use Rattle.pddl_tokens.specs.Trees.{trees_of, sizes}
use Rattle.pddl_domain.specs.Meaning.{with_head_names, head_names}
use Rattle.pddl_domain.proofs.meaning.head_names.Given as goal

abbrev pub invariant-heads : goal.invariant-heads
invariant-heads l = with_head_names l.kind l.names l.part (trees_of l.rest) ≡ head_names l.kind (trees_of l.members)

abbrev pub decreases-heads : goal.decreases-heads
decreases-heads l = sizes (trees_of l.rest)
