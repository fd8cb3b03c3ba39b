use Rattle.std.proofs.Common.{◌≡◌, drop, true}
use Rattle.tp_spec.specs.WellFormed.{are_words}
use Rattle.problem_rules.proofs.names.is_name.Given as goal

abbrev pub invariant-loop-byte : goal.invariant-loop-byte
invariant-loop-byte l = are_words l.wanted (drop l.byte-index l.text) ≡ are_words true l.text
