use Rattle.std.proofs.Common.{◌≡◌, ◌++◌, drop}
use Rattle.fault_places.specs.Places.{blanks}
use Rattle.fault_places.proofs.carets.push_blanks.Given as goal

abbrev pub invariant-loop-byte : goal.invariant-loop-byte
invariant-loop-byte l = l.line.items ++ blanks (drop l.byte-index l.text) ≡ l.fn.line.items ++ blanks l.text
