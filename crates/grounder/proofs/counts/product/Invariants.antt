use Rattle.std.proofs.Common.{◌≡◌, ◌*◌, ◌-◌, ◌^◌, ◌≤◌, min, length}
use Rattle.grounder.specs.Objects.{choices_number}
use Rattle.grounder.proofs.counts.product.Given as goal

abbrev pub invariant-members : goal.invariant-members
invariant-members l = record {
  total : min (l.product * choices_number l.rest) (2 ^ 128 - 1) ≡ min (choices_number l.ranges) (2 ^ 128 - 1);
  small : l.product ≤ 2 ^ 128 - 1;
}

abbrev pub decreases-members : goal.decreases-members
decreases-members l = length l.rest
