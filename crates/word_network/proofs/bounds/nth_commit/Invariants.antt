use Rattle.std.proofs.Common.{◌≡◌, drop}
use Rattle.std.specs.Prelude.{slice_get}
use Rattle.tp_spec.specs.Schedules.{commits_by}
use Rattle.word_network.proofs.bounds.nth_commit.Given as goal

abbrev pub invariant-loop-commit : goal.invariant-loop-commit
invariant-loop-commit l = slice_get (commits_by l.action (drop l.commit-index l.commits)) l.left ≡ slice_get (commits_by l.action l.commits) l.passed
