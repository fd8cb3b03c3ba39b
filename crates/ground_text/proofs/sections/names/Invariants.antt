use Rattle.std.proofs.Common.{◌≡◌, ◌-◌}
use Rattle.ground_text.specs.Reading.{counted_at, repeated_at, name_at}
use Rattle.ground_text.proofs.Loops.{with_front}
use Rattle.ground_text.proofs.sections.names.Given as goal

abbrev pub invariant-loop : goal.invariant-loop
invariant-loop l = with_front l.items.items (repeated_at name_at (l.count - l.counter) l.rest) ≡ counted_at name_at l.most l.bytes
