use Rattle.std.proofs.Common.{◌≡◌, ◌+◌, ◌≤◌, drop, map, length}
use Rattle.word_rows.specs.Rows.{open_acts}
use Rattle.word_network.specs.Parts.{act_of}
use Rattle.word_network.proofs.rows.open_count.Given as goal

abbrev pub invariant-loop-act : goal.invariant-loop-act
invariant-loop-act l = record {
  few : l.count ≤ l.act-index;
  told : l.count + length (open_acts (map act_of (drop l.act-index l.acts))) ≡ length (open_acts (map act_of l.acts));
}
