use Rattle.std.proofs.Common.{◌≡◌, ◌+◌, ◌-◌, ◌^◌, ◌≤◌, min, length}
use Rattle.grounder.specs.Sources.{source_of}
use Rattle.grounder.specs.Objects.{raw_number}
use Rattle.grounder.proofs.counts.raw_number.Given as goal

abbrev pub invariant-actions : goal.invariant-actions
invariant-actions l = record {
  total : min (l.sum + raw_number (source_of l.start.source) l.rest) (2 ^ 128 - 1)
      ≡ min (raw_number (source_of l.start.source) l.start.source.domain.now.actions) (2 ^ 128 - 1);
  small : l.sum ≤ 2 ^ 128 - 1;
}

abbrev pub decreases-actions : goal.decreases-actions
decreases-actions l = length l.rest
