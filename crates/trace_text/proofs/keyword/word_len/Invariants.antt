use Rattle.std.proofs.Common.{◌≡◌, ◌+◌, drop}
use Rattle.trace_text.specs.Reading.{word_len}
use Rattle.trace_text.proofs.keyword.word_len.Given as goal

abbrev pub invariant-loop-byte : goal.invariant-loop-byte
invariant-loop-byte l = record {
  counted : l.len + word_len (drop l.byte-index l.line) ≡ word_len l.line;
  place : l.len ≡ l.byte-index;
}
