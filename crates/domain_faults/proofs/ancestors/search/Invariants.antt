use Rattle.std.proofs.Common.{ℕ, ◌<◌, get_or}
use Rattle.domain_faults.specs.Walks.{IsKnown}
use Rattle.domain_faults.proofs.ancestors.search.Given as goal

abbrev pub invariant-loop-start : goal.invariant-loop-start
invariant-loop-start l = record {
  known : IsKnown l.above l.places l.order l.marks;
  met : (v : ℕ) → v < l.start → 0 < get_or l.places v 0;
}
