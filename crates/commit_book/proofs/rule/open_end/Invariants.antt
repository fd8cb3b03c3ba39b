use Rattle.std.proofs.Common.{◌≡◌, drop}
use Rattle.word_network.specs.Schedules.{end_in}
use Rattle.commit_book.proofs.rule.open_end.Given as goal

abbrev pub invariant-loop-kept : goal.invariant-loop-kept
invariant-loop-kept l = end_in l.action (drop l.kept-index l.ends) ≡ end_in l.action l.ends
