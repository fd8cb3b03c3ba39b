use Rattle.std.proofs.Common.{◌≡◌, [], None, take}
use Rattle.tp_spec.specs.declared.problem.Problem.{Problem}
use Rattle.tp_spec.specs.Machine.{candidate}
use Rattle.tp_spec.specs.Words.{acts_of}
use Rattle.commit_book.proofs.rule.first_free.Given as goal

abbrev pub invariant-loop-i : goal.invariant-loop-i
invariant-loop-i l = (p : Problem) → candidate [] l.commits (acts_of p (take l.i l.word)) ≡ None
