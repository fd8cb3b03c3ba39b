use Rattle.std.proofs.Common.{◌≡◌, ◌++◌}
use Rattle.pddl_tokens.specs.Trees.{trees_of, sizes}
use Rattle.pddl_domain.specs.Meaning.{schemas_of}
use Rattle.pddl_domain.proofs.meaning.schemas_of.Given as goal

abbrev pub invariant-sections : goal.invariant-sections
invariant-sections l = l.schemas ++ schemas_of l.types l.symbols l.scale (trees_of l.rest) ≡ schemas_of l.types l.symbols l.scale (trees_of l.sections)

abbrev pub decreases-sections : goal.decreases-sections
decreases-sections l = sizes (trees_of l.rest)
