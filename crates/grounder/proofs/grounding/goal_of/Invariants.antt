use Rattle.std.proofs.Common.{◌≡◌, [], true, map, take}
use Rattle.grounder.specs.Sources.{source_of}
use Rattle.grounder.specs.Parts.{cond_of}
use Rattle.grounder.proofs.grounding.goal_of.Given as goal

abbrev pub invariant-loop-condition : goal.invariant-loop-condition
invariant-loop-condition l = l.conds
    ≡ map (cond_of (source_of l.start.source) l.numbering.facts l.numbering.fluents true [])
    (take l.condition-index l.goal)
