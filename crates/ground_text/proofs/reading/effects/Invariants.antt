use Rattle.std.proofs.Common.{◌≡◌, ◌-◌, length}
use Rattle.ground_text.specs.Reading.{members_at, effect_at}
use Rattle.ground_text.proofs.Loops.{with_front}
use Rattle.ground_text.proofs.reading.effects.Given as goal

abbrev pub invariant-loop : goal.invariant-loop
invariant-loop l = with_front l.items.items (members_at effect_at (length l.bytes - l.counter) l.rest) ≡ members_at effect_at (length l.bytes) l.bytes
