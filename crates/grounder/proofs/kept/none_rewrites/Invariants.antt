use Rattle.std.proofs.Common.{◌≡◌, true, not, take}
use Rattle.std.specs.List.{list_all}
use Rattle.grounder.specs.Sources.{source_of}
use Rattle.grounder.specs.Kept.{rewrites}
use Rattle.grounder.proofs.kept.none_rewrites.Given as goal

abbrev pub invariant-loop-other : goal.invariant-loop-other
invariant-loop-other l =
    list_all (λ d. not (rewrites (source_of l.start.source) l.objects l.first d))
    (take l.other-index l.others) ≡ true
