use Rattle.std.proofs.Common.{◌≡◌, ◌++◌, map, length}
use Rattle.grounder.proofs.Sorting.{text_of}
use Rattle.grounder.proofs.sorted.listed_names.Given as goal

abbrev pub invariant-names : goal.invariant-names
invariant-names l = l.names ++ map text_of l.set.keys ≡ map text_of l.fn.set.keys

abbrev pub decreases-names : goal.decreases-names
decreases-names l = length l.set.keys
