use Rattle.std.proofs.Common.{◌≡◌, ◌≤◌, ◌+◌, length, drop}
use Rattle.ground_text.specs.Completion.{lines_len, lines_stand}
use Rattle.ground_text.proofs.lines.lines_len.Given as goal

abbrev pub invariant-loop-byte : goal.invariant-loop-byte
invariant-loop-byte l = record {
  place : l.len ≡ l.byte-index;
  within : l.byte-index ≤ length l.text;
  counted : l.len + lines_len l.left (drop l.byte-index l.text) ≡ lines_len l.count l.text;
  all : lines_stand l.left (drop l.byte-index l.text) ≡ lines_stand l.count l.text;
}
