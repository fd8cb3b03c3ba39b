use Rattle.std.proofs.Common.{◌≡◌, take}
use Rattle.grounder.specs.Sources.{source_of}
use Rattle.grounder.specs.Objects.{is_below, numbers_where}
use Rattle.grounder.proofs.objects.objects_of.Given as goal

abbrev pub invariant-loop-number : goal.invariant-loop-number
invariant-loop-number l =
    l.objects ≡ numbers_where (λ o. is_below (source_of l.source) l.sort o.sort) 0
    (take l.number l.source.task.now.objects)
