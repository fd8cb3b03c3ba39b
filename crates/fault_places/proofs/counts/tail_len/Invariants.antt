use Rattle.std.proofs.Common.{◌≡◌, ◌≤◌, drop}
use Rattle.fault_places.specs.Places.{tail_len}
use Rattle.fault_places.proofs.counts.tail_len.Given as goal

abbrev pub invariant-loop-byte : goal.invariant-loop-byte
invariant-loop-byte l = record {
  counted : tail_len l.len (drop l.byte-index l.text) ≡ tail_len 0 l.text;
  within : l.len ≤ l.byte-index;
}
