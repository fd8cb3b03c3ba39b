use Rattle.std.proofs.Common.{◌≡◌, ◌+◌, drop}
use Rattle.ground_text.specs.Reading.{line_len}
use Rattle.ground_text.proofs.bytes.line_len.Given as goal

abbrev pub invariant-loop-byte : goal.invariant-loop-byte
invariant-loop-byte l = record {
  counted : l.len + line_len (drop l.byte-index l.bytes) ≡ line_len l.bytes;
  place : l.len ≡ l.byte-index;
}
