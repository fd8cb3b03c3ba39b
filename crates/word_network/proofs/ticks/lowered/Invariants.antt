use Rattle.std.proofs.Common.{◌≡◌, drop, length}
use Rattle.word_network.specs.Nets.{lowered as lowered_by}
use Rattle.word_network.proofs.ticks.lowered.Given as goal

abbrev pub invariant-loop-bound : goal.invariant-loop-bound
invariant-loop-bound l = record {
  counted : length l.at.items ≡ length l.fn.ticks.items;
  told : lowered_by l.at.items (drop l.bound-index l.bounds) ≡ lowered_by l.fn.ticks.items l.bounds;
}
