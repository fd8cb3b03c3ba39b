use Rattle.std.proofs.Common.{◌≡◌, false, take}
use Rattle.std.specs.List.{list_any}
use Rattle.grounder.specs.Sources.{source_of}
use Rattle.grounder.specs.Cuts.{fails}
use Rattle.grounder.proofs.cuts.any_fails.Given as goal

abbrev pub invariant-loop-condition : goal.invariant-loop-condition
invariant-loop-condition l =
    list_any (fails (source_of l.start.source) l.objects) (take l.condition-index l.conditions)
    ≡ false
