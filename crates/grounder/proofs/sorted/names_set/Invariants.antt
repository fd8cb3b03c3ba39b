use Rattle.std.proofs.Common.{◌≡◌, [], map, take}
use Rattle.grounder.specs.Naming.{with_names}
use Rattle.grounder.proofs.Sorting.{text_of}
use Rattle.grounder.proofs.sorted.names_set.Given as goal

abbrev pub invariant-loop-name : goal.invariant-loop-name
invariant-loop-name l = map text_of l.set.keys ≡ with_names [] (take l.name-index l.names)
