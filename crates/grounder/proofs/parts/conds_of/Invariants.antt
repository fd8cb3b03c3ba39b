use Rattle.std.proofs.Common.{◌≡◌, take}
use Rattle.std.specs.List.{flat_map}
use Rattle.grounder.specs.Sources.{source_of}
use Rattle.grounder.specs.Parts.{cond_left}
use Rattle.grounder.proofs.parts.conds_of.Given as goal

abbrev pub invariant-loop-condition : goal.invariant-loop-condition
invariant-loop-condition l = l.conds
    ≡ flat_map (cond_left (source_of l.start.source) l.numbering.facts l.numbering.fluents
    l.objects) (take l.condition-index l.conditions)
