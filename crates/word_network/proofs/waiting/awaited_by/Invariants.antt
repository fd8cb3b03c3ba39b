use Rattle.std.proofs.Common.{◌≡◌, ◌++◌, drop, map}
use Rattle.tp_spec.specs.Schedules.{awaited}
use Rattle.word_network.specs.Parts.{act_of}
use Rattle.word_network.proofs.waiting.awaited_by.Given as goal

abbrev pub invariant-loop-commit : goal.invariant-loop-commit
invariant-loop-commit l = l.waiting.items ++ awaited (map act_of l.left.items) (drop l.commit-index l.commits) ≡ awaited (map act_of l.acts) l.commits
