use Rattle.std.proofs.Common.{◌≡◌, true, take}
use Rattle.std.specs.List.{list_all}
use Rattle.grounder.specs.Sources.{source_of}
use Rattle.grounder.specs.Lengths.{has_worth}
use Rattle.grounder.proofs.durations.all_have_worth.Given as goal

abbrev pub invariant-loop-bound : goal.invariant-loop-bound
invariant-loop-bound l =
    list_all (has_worth (source_of l.start.source) l.objects) (take l.bound-index l.bounds) ≡ true
