use Rattle.std.proofs.Common.{◌≡◌, ◌+◌, drop}
use Rattle.line_text.specs.Lines.{line_len}
use Rattle.line_text.proofs.lines.line_len.Given as goal

abbrev pub invariant-loop-byte : goal.invariant-loop-byte
invariant-loop-byte l = record {
  counted : l.len + line_len (drop l.byte-index l.text) ≡ line_len l.text;
  place : l.len ≡ l.byte-index;
}
