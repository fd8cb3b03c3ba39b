use Rattle.std.proofs.Common.{◌≡◌, ℕ, ◌<◌, ◌≤◌, length}
use Rattle.std.specs.Prelude.{min, slice_index}
use Rattle.tick_network.proofs.solve.cut.Given as goal

abbrev pub invariant-loop-v : goal.invariant-loop-v
invariant-loop-v l = record {
  count : length l.at.items ≡ length l.fn.ticks.items;
  done : (u : ℕ) → u < l.v → slice_index l.at.items u ≡ min (slice_index l.fn.ticks.items u) (slice_index l.high u);
  left : (u : ℕ) → l.v ≤ u → slice_index l.at.items u ≡ slice_index l.fn.ticks.items u;
}
