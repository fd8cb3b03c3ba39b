use Rattle.std.proofs.Common.{◌≡◌, ◌≤◌, ◌<◌, ◌++◌, length, map, drop}
use Rattle.word_frontier.specs.Slots.{word_of, words_of, step_of}
use Rattle.word_frontier.proofs.frontier.word.Given as goal

abbrev pub invariant-loop-at : goal.invariant-loop-at
invariant-loop-at l = record {
  there : l.at < length l.slots;
  left : l.left ≡ length (word_of (words_of (map step_of l.slots)) l.at);
  fits : l.left ≤ length l.marks.items;
  back : word_of (words_of (map step_of l.slots)) l.at ++ drop l.left l.marks.items ≡ word_of (words_of (map step_of l.slots)) l.id;
}

abbrev pub decreases-loop-at : goal.decreases-loop-at
decreases-loop-at l = l.at
