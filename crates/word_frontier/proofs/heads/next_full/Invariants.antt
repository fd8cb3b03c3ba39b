use Rattle.std.proofs.Common.{◌≡◌, ◌≤◌, ◌<◌, ℕ, None}
use Rattle.word_frontier.specs.Slots.{head_at}
use Rattle.word_frontier.proofs.heads.next_full.Given as goal

abbrev pub invariant-loop-rank : goal.invariant-loop-rank
invariant-loop-rank l = (r : ℕ) → l.fn.from ≤ r → r < l.rank → head_at l.ids r ≡ None
