use Rattle.std.proofs.Common.{◌≡◌, take}
use Rattle.word_network.specs.Nets.{bounds_at}
use Rattle.word_network.proofs.bounds.bounds_of_last.Given as goal

abbrev pub invariant-loop-commit : goal.invariant-loop-commit
invariant-loop-commit l = l.bounds.items ≡ bounds_at l.problem l.last l.timed (take l.commit-index l.waiting)
