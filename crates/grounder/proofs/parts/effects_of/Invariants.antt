use Rattle.std.proofs.Common.{◌≡◌, map, take}
use Rattle.grounder.specs.Sources.{source_of}
use Rattle.grounder.specs.Parts.{effect_of}
use Rattle.grounder.proofs.parts.effects_of.Given as goal

abbrev pub invariant-loop-change : goal.invariant-loop-change
invariant-loop-change l = l.effects
    ≡ map (effect_of (source_of l.start.source) l.numbering.facts l.numbering.fluents l.objects)
    (take l.change-index l.changes)
