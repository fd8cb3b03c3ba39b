use Rattle.std.proofs.Common.{◌≡◌, true, take}
use Rattle.std.specs.List.{list_all}
use Rattle.grounder.specs.Sources.{source_of}
use Rattle.grounder.specs.Kept.{allows}
use Rattle.grounder.proofs.conditions.all_allow.Given as goal

abbrev pub invariant-loop-condition : goal.invariant-loop-condition
invariant-loop-condition l =
    list_all (allows (source_of l.start.source) l.objects) (take l.condition-index l.conditions)
    ≡ true
