use Rattle.std.proofs.Common.{◌≡◌, ◌+◌, ◌-◌, ◌^◌, ◌≤◌, min, length}
use Rattle.grounder.specs.Grounded.{total}
use Rattle.grounder.proofs.counts.total.Given as goal

abbrev pub invariant-lists : goal.invariant-lists
invariant-lists l = record {
  sum : min (l.sum + total l.rest) (2 ^ 128 - 1) ≡ min (total l.all) (2 ^ 128 - 1);
  small : l.sum ≤ 2 ^ 128 - 1;
}

abbrev pub decreases-lists : goal.decreases-lists
decreases-lists l = length l.rest
