use Rattle.std.proofs.Common.{◌≡◌, take, drop}
use Rattle.tp_spec.specs.Words.{groups}
use Rattle.commit_book.specs.Starts.{closing_from}
use Rattle.commit_book.proofs.rule.first_end.Given as goal

abbrev pub invariant-loop-i : goal.invariant-loop-i
invariant-loop-i l = closing_from (groups (take l.i l.word)) l.action (drop l.i l.word) ≡ closing_from (groups (take l.from l.word)) l.action (drop l.from l.word)
