use Rattle.std.proofs.Common.{◌≡◌, ◌≤◌, ◌<◌, ◌-◌, ℕ, Some, length}
use Rattle.std.specs.List.{slice_get}
use Rattle.word_frontier.specs.Slots.{keys, ranks_of}
use Rattle.word_frontier.proofs.frontier.first_from.Given as goal

abbrev pub invariant-loop-among : goal.invariant-loop-among
invariant-loop-among l = record {
  rank : slice_get (ranks_of l.slots) l.id ≡ Some l.fn.rank;
  on : l.fn.from ≤ l.id;
  before : (j : ℕ) → l.fn.from ≤ j → j < l.id → slice_get (keys l.fn.among l.slots) j ≡ Some (Some l.fn.rank) → ⊥;
}

abbrev pub decreases-loop-among : goal.decreases-loop-among
decreases-loop-among l = length l.slots - l.id
