use Rattle.std.proofs.Common.{◌≡◌, [], take}
use Rattle.grounder.specs.Grounded.{with_numbers}
use Rattle.grounder.proofs.sorted.numbers_set.Given as goal

abbrev pub invariant-loop-number : goal.invariant-loop-number
invariant-loop-number l = l.set.keys ≡ with_numbers [] (take l.number-index l.numbers)
