use Rattle.std.proofs.Common.{◌≡◌, not, length}
use Rattle.tp_spec.specs.Lists.{each_pair}
use Rattle.grounder.specs.Sources.{source_of}
use Rattle.grounder.specs.Kept.{rewrites}
use Rattle.grounder.proofs.kept.are_apart.Given as goal

abbrev pub invariant-changes : goal.invariant-changes
invariant-changes l =
    each_pair (λ c d. not (rewrites (source_of l.start.source) l.objects c d)) l.rest
    ≡ each_pair (λ c d. not (rewrites (source_of l.start.source) l.objects c d)) l.changes

abbrev pub decreases-changes : goal.decreases-changes
decreases-changes l = length l.rest
