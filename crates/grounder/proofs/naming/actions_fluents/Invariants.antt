use Rattle.std.proofs.Common.{◌≡◌, take}
use Rattle.std.specs.List.{flat_map}
use Rattle.grounder.specs.Sources.{source_of}
use Rattle.grounder.specs.Naming.{schema_fluents}
use Rattle.grounder.proofs.naming.actions_fluents.Given as goal

abbrev pub invariant-loop-number : goal.invariant-loop-number
invariant-loop-number l =
    l.names ≡ flat_map (schema_fluents (source_of l.start.source))
    (take l.number l.start.source.domain.now.actions)
