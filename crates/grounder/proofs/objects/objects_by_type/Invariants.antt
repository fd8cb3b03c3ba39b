use Rattle.std.proofs.Common.{◌≡◌, map}
use Rattle.std.specs.List.{range_with_len}
use Rattle.grounder.specs.Sources.{source_of}
use Rattle.grounder.specs.Objects.{objects_of}
use Rattle.grounder.proofs.objects.objects_by_type.Given as goal

abbrev pub invariant-loop-number : goal.invariant-loop-number
invariant-loop-number l =
    l.table ≡ map (objects_of (source_of l.source)) (range_with_len 0 l.number)
