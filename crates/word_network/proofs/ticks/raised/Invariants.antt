use Rattle.std.proofs.Common.{◌≡◌, drop, length}
use Rattle.word_network.specs.Nets.{raised as raised_by}
use Rattle.word_network.proofs.ticks.raised.Given as goal

abbrev pub invariant-loop-bound : goal.invariant-loop-bound
invariant-loop-bound l = record {
  counted : length l.at.items ≡ length l.fn.ticks.items;
  told : raised_by l.at.items (drop l.bound-index l.bounds) ≡ raised_by l.fn.ticks.items l.bounds;
}
