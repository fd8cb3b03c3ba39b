use Rattle.std.proofs.Common.{◌≡◌, ◌+◌, ◌≤◌, drop, map, length}
use Rattle.tp_spec.specs.Schedules.{acts_by}
use Rattle.word_network.specs.Parts.{act_of}
use Rattle.word_network.proofs.bounds.count_by.Given as goal

abbrev pub invariant-loop-act : goal.invariant-loop-act
invariant-loop-act l = record {
  few : l.count ≤ l.act-index;
  told : l.count + length (acts_by l.action (map act_of (drop l.act-index l.acts))) ≡ length (acts_by l.action (map act_of l.acts));
}
