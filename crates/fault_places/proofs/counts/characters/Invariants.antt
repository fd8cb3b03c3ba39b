use Rattle.std.proofs.Common.{◌≡◌, ◌≤◌, ◌+◌, drop}
use Rattle.fault_places.specs.Places.{characters}
use Rattle.fault_places.proofs.counts.characters.Given as goal

abbrev pub invariant-loop-byte : goal.invariant-loop-byte
invariant-loop-byte l = record {
  counted : l.count + characters (drop l.byte-index l.text) ≡ characters l.text;
  within : l.count ≤ l.byte-index;
}
