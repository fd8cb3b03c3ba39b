use Rattle.std.proofs.Common.{◌≡◌, ◌+◌, ◌≤◌, length}
use Rattle.trace_text.proofs.Continued.{Goes}
use Rattle.trace_text.proofs.read.events_of.Given as goal

abbrev pub invariant-lines : goal.invariant-lines
invariant-lines l = record {
  goes : Goes l.text l.count l.left l.events l.rest;
  counted : l.number ≡ length l.events + 2;
  few : l.number + length l.rest ≤ length l.text + 1;
}

abbrev pub decreases-lines : goal.decreases-lines
decreases-lines l = length l.rest
