use Rattle.std.proofs.Common.{◌≡◌, map, take}
use Rattle.grounder.specs.Sources.{source_of}
use Rattle.grounder.specs.Starts.{given}
use Rattle.grounder.proofs.grounding.values_of.Given as goal

abbrev pub invariant-loop-name : goal.invariant-loop-name
invariant-loop-name l =
    l.values ≡ map (given (source_of l.start.source)) (take l.name-index l.fluents)
