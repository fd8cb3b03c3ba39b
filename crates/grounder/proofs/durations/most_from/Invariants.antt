use Rattle.std.proofs.Common.{◌≡◌, length}
use Rattle.grounder.specs.Sources.{source_of}
use Rattle.grounder.specs.Lengths.{most_from}
use Rattle.grounder.proofs.durations.most_from.Given as goal

abbrev pub invariant-bounds : goal.invariant-bounds
invariant-bounds l =
    most_from (source_of l.start.source) l.objects l.most l.rest
    ≡ most_from (source_of l.start.source) l.objects l.fn.most l.bounds

abbrev pub decreases-bounds : goal.decreases-bounds
decreases-bounds l = length l.rest
