use Rattle.std.proofs.Common.{◌≡◌, ℕ, ◌≤◌, ◌<◌, slice_index}
use Rattle.node_state.proofs.ones.next_word.Given as goal

abbrev pub invariant-loop-index : goal.invariant-loop-index
invariant-loop-index l = (k : ℕ) → l.from ≤ k → k < l.index → slice_index l.row.words.items k ≡ 0
