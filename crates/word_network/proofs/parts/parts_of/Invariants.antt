use Rattle.std.proofs.Common.{◌≡◌, ◌+◌, ◌≤◌, ◌++◌, drop, map, length}
use Rattle.tp_spec.specs.Words.{groups as group_count, acts_of, acts_from, timed_of, timed_from}
use Rattle.word_network.specs.Parts.{act_of}
use Rattle.word_network.proofs.parts.parts_of.Given as goal

abbrev pub invariant-loop-mark : goal.invariant-loop-mark
invariant-loop-mark l = record {
  few : l.groups ≤ l.mark-index;
  short : length l.acts.items ≤ l.mark-index;
  counted : l.groups + group_count (drop l.mark-index l.word) ≡ group_count l.word;
  acting : acts_from l.problem l.groups (drop l.mark-index l.word) (map act_of l.acts.items) ≡ acts_of l.problem l.word;
  timing : l.timed.items ++ timed_from l.groups (drop l.mark-index l.word) ≡ timed_of l.word;
}
