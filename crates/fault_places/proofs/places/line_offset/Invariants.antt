use Rattle.std.proofs.Common.{◌≡◌, ◌≤◌, ◌+◌, length, drop}
use Rattle.fault_places.specs.Places.{lines_len}
use Rattle.fault_places.proofs.places.line_offset.Given as goal

abbrev pub invariant-loop-byte : goal.invariant-loop-byte
invariant-loop-byte l = record {
  counted : l.len + lines_len l.left (drop l.byte-index l.text) ≡ lines_len l.count l.text;
  place : l.len ≡ l.byte-index;
  within : l.byte-index ≤ length l.text;
}
