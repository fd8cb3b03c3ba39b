use Rattle.std.proofs.Common.{◌≡◌, ℕ, suc, ◌-◌, ◌<◌, ◌≤◌, length, get_or}
use Rattle.domain_faults.specs.Types.{parent_of}
use Rattle.domain_faults.proofs.cycles.above_each.Given as goal

abbrev pub invariant-loop-number : goal.invariant-loop-number
invariant-loop-number l = record {
  number : length l.above ≡ l.number;
  within : l.number ≤ suc (length l.types - 1);
  root : get_or l.above 0 0 ≡ 0;
  parent : (v : ℕ) → 0 < v → v < l.number → get_or l.above v 0 ≡ parent_of l.types l.parents v;
}
