use Rattle.std.proofs.Common.{◌≡◌, ◌++◌, length}
use Rattle.grounder.proofs.sorted.listed_numbers.Given as goal

abbrev pub invariant-numbers : goal.invariant-numbers
invariant-numbers l = l.numbers ++ l.set.keys ≡ l.fn.set.keys

abbrev pub decreases-numbers : goal.decreases-numbers
decreases-numbers l = length l.set.keys
