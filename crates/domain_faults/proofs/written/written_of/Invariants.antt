use Rattle.std.proofs.Common.{◌≡◌}
use Rattle.pddl_tokens.specs.Trees.{trees_of, sizes}
use Rattle.domain_faults.specs.Written.{with_sections, written_of}
use Rattle.domain_faults.proofs.written.written_of.Given as goal

abbrev pub invariant-sections : goal.invariant-sections
invariant-sections l = with_sections l.names (trees_of l.rest) ≡ written_of (trees_of l.sections)

abbrev pub decreases-sections : goal.decreases-sections
decreases-sections l = sizes (trees_of l.rest)
