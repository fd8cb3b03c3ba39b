use Rattle.std.proofs.Common.{◌-◌, ◌+◌, ◌≤◌, ◌<◌, length}
use Rattle.ground_text.specs.Reading.{parts_at}
use Rattle.line_text.specs.Lines.{lines}
use Rattle.ground_text.specs.Completion.{completed, NoneBegins, SomeBegins}
use Rattle.ground_text.proofs.search.last_begun.Given as goal

abbrev pub invariant-halves : goal.invariant-halves
invariant-halves l = record {
  apart : l.low < l.high;
  within : l.high ≤ length l.text + 1;
  begins : SomeBegins l.low l.text (completed (parts_at (lines l.low l.text)));
  ends : NoneBegins l.high l.text;
}

abbrev pub decreases-halves : goal.decreases-halves
decreases-halves l = l.high - l.low
