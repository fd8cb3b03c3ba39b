use Rattle.std.proofs.Common.{◌≡◌}
use Rattle.pddl_tokens.specs.Trees.{trees_of, sizes}
use Rattle.domain_faults.specs.Parts.{part_from, part_of}
use Rattle.domain_faults.proofs.parts.part_of.Given as goal

abbrev pub invariant-parts : goal.invariant-parts
invariant-parts l = part_from l.kind l.key l.slot (trees_of l.rest) ≡ part_of l.kind l.key (trees_of l.members)

abbrev pub decreases-parts : goal.decreases-parts
decreases-parts l = sizes (trees_of l.rest)
