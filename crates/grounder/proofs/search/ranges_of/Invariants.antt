use Rattle.std.proofs.Common.{◌≡◌, map, take}
use Rattle.grounder.specs.Sources.{source_of}
use Rattle.grounder.specs.Objects.{objects_of}
use Rattle.grounder.proofs.search.ranges_of.Given as goal

abbrev pub invariant-loop-sort : goal.invariant-loop-sort
invariant-loop-sort l =
    l.ranges ≡ map (objects_of (source_of l.start.source)) (take l.sort-index l.sorts)
