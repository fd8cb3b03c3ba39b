use Rattle.std.proofs.Common.{◌≡◌, length}
use Rattle.grounder.specs.Sources.{source_of}
use Rattle.grounder.specs.Lengths.{least_from}
use Rattle.grounder.proofs.durations.least_from.Given as goal

abbrev pub invariant-bounds : goal.invariant-bounds
invariant-bounds l =
    least_from (source_of l.start.source) l.objects l.least l.rest
    ≡ least_from (source_of l.start.source) l.objects l.fn.least l.bounds

abbrev pub decreases-bounds : goal.decreases-bounds
decreases-bounds l = length l.rest
