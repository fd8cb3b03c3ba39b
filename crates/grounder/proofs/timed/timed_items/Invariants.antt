use Rattle.std.proofs.Common.{◌≡◌, map, take}
use Rattle.grounder.specs.Sources.{source_of}
use Rattle.grounder.specs.Grounded.{timed_item}
use Rattle.grounder.proofs.timed.timed_items.Given as goal

abbrev pub invariant-loop-tick : goal.invariant-loop-tick
invariant-loop-tick l =
    l.items ≡ map (timed_item (source_of l.start.source) l.facts) (take l.tick-index l.ticks)
