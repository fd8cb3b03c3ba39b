use Rattle.std.proofs.Common.{◌≡◌, true, take}
use Rattle.std.specs.List.{list_all}
use Rattle.grounder.specs.Sources.{source_of}
use Rattle.grounder.specs.Kept.{is_known_by}
use Rattle.grounder.proofs.kept.all_known.Given as goal

abbrev pub invariant-loop-change : goal.invariant-loop-change
invariant-loop-change l =
    list_all (is_known_by (source_of l.start.source) l.objects) (take l.change-index l.changes)
    ≡ true
