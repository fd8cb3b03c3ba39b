use Rattle.std.proofs.Common.{◌≡◌, ◌++◌}
use Rattle.pddl_tokens.specs.Trees.{trees_of, sizes}
use Rattle.pddl_parts.specs.declared.typed.Part.TheVariants.{Start}
use Rattle.pddl_domain.specs.Meaning.{heads_from}
use Rattle.pddl_domain.proofs.meaning.heads_of.Given as goal

abbrev pub invariant-heads : goal.invariant-heads
invariant-heads l = l.heads ++ heads_from l.kind l.types l.part (trees_of l.rest) ≡ heads_from l.kind l.types Start (trees_of l.members)

abbrev pub decreases-heads : goal.decreases-heads
decreases-heads l = sizes (trees_of l.rest)
