use Rattle.std.proofs.Common.{◌≡◌, ◌≤◌, ◌<◌, ◌+◌, length, map}
use Rattle.word_frontier.specs.Slots.{word_of, words_of, step_of}
use Rattle.word_frontier.proofs.frontier.depth.Given as goal

abbrev pub invariant-loop-at : goal.invariant-loop-at
invariant-loop-at l = record {
  there : l.at < length l.slots;
  few : l.depth + l.at ≤ l.id;
  far : l.depth + length (word_of (words_of (map step_of l.slots)) l.at) ≡ length (word_of (words_of (map step_of l.slots)) l.id);
}

abbrev pub decreases-loop-at : goal.decreases-loop-at
decreases-loop-at l = l.at
