use Rattle.std.proofs.Common.{◌≡◌, ◌++◌, length, take}
use Rattle.grounder.specs.Sources.{source_of}
use Rattle.grounder.specs.Kept.{is_kept}
use Rattle.grounder.proofs.Choices.{behind, onward}
use Rattle.grounder.proofs.search.+with_kept.Given as goal

abbrev pub decreases-with_kept : goal.decreases-with_kept
decreases-with_kept l = length l.ranges.now

abbrev pub invariant-loop-object : goal.invariant-loop-object
invariant-loop-object l = l.kept ≡ l.fn.kept
    ++ behind (is_kept (source_of l.start.source) l.schema) l.objects
    (onward l.tail (take l.object-index l.object-items))
