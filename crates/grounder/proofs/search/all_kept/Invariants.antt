use Rattle.std.proofs.Common.{◌≡◌, map, take}
use Rattle.grounder.specs.Sources.{source_of}
use Rattle.grounder.specs.Kept.{kept}
use Rattle.grounder.proofs.search.all_kept.Given as goal

abbrev pub invariant-loop-schema : goal.invariant-loop-schema
invariant-loop-schema l =
    l.all ≡ map (kept (source_of l.start.source))
    (take l.schema-index l.start.source.domain.now.actions)
