use Rattle.std.proofs.Common.{◌≡◌, [], take, drop}
use Rattle.commit_book.proofs.Held.{held_from}
use Rattle.commit_book.proofs.rule.are_held.Given as goal

abbrev pub invariant-loop-i : goal.invariant-loop-i
invariant-loop-i l = held_from l.word (take l.i l.commits) (drop l.i l.commits) ≡ held_from l.word [] l.commits
