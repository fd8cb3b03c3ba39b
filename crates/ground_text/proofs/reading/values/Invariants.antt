use Rattle.std.proofs.Common.{◌≡◌, ◌-◌, length}
use Rattle.ground_text.specs.Reading.{members_at, value_at}
use Rattle.ground_text.proofs.Loops.{with_front}
use Rattle.ground_text.proofs.reading.values.Given as goal

abbrev pub invariant-loop : goal.invariant-loop
invariant-loop l = with_front l.items.items (members_at value_at (length l.bytes - l.counter) l.rest) ≡ members_at value_at (length l.bytes) l.bytes
