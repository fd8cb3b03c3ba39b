use Rattle.std.proofs.Common.{◌≡◌}
use Rattle.std.specs.Prelude.{string_bytes}
use Rattle.ground_text.specs.Completion.{bang_name}
use Rattle.ground_text.proofs.filling.bang_name.Given as goal

abbrev pub invariant-loop : goal.invariant-loop
invariant-loop l = string_bytes l.text ≡ bang_name l.counter
