use Rattle.std.proofs.Common.{◌≡◌, ◌+◌, ◌≤◌, length}
use Rattle.script_text.specs.Scripts.{lines_from, pieces, script_of}
use Rattle.script_text.specs.Reading.{behind_lines}
use Rattle.script_text.proofs.read.lines_of.Given as goal

abbrev pub invariant-lines : goal.invariant-lines
invariant-lines l = record {
  so_far : behind_lines l.lines (lines_from l.number l.holders.items (pieces l.rest)) ≡ script_of l.text;
  few : l.number + length l.rest ≤ length l.text + 1;
}

abbrev pub decreases-lines : goal.decreases-lines
decreases-lines l = length l.rest
