use Rattle.std.proofs.Common.{◌≡◌, take}
use Rattle.std.specs.List.{flat_map}
use Rattle.grounder.specs.Sources.{source_of}
use Rattle.grounder.specs.Parts.{schema_actions}
use Rattle.grounder.proofs.parts.actions_of.Given as goal

abbrev pub invariant-loop-number : goal.invariant-loop-number
invariant-loop-number l = l.actions
    ≡ flat_map (schema_actions (source_of l.start.source) l.numbering.facts l.numbering.fluents)
    (take l.number l.start.source.domain.now.actions)
