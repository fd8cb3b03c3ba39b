use Rattle.std.proofs.Common.{◌≡◌, ℕ, true, List, ◌++◌, length, ◌+◌, ◌≤◌}
use Rattle.line_text.specs.Lines.{joined, are_lines}
use Rattle.line_text.proofs.reader.read_lines.Given as goal

abbrev pub invariant-lines : goal.invariant-lines
invariant-lines g l = record {
  taken : List (List ℕ);
  state : g.R.LineReader.HasTaken taken l.reader;
  parts : l.fn.text ≡ joined taken ++ l.rest;
  are : are_lines taken ≡ true;
  counted : l.number ≡ length taken + 1;
  few : length taken + length l.rest ≤ length l.fn.text;
}

abbrev pub decreases-lines : goal.decreases-lines
decreases-lines g l = length l.rest
