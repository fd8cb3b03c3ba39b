use Rattle.std.proofs.Common.{◌≡◌, ◌+◌, ◌≤◌, drop, map}
use Rattle.word_rows.specs.Rows.{open_acts, place}
use Rattle.word_network.specs.Parts.{act_of}
use Rattle.word_network.proofs.rows.place_of.Given as goal

abbrev pub invariant-loop-act : goal.invariant-loop-act
invariant-loop-act l = record {
  few : l.passed ≤ l.act-index;
  told : l.passed + place l.action (open_acts (map act_of (drop l.act-index l.acts))) ≡ place l.action (open_acts (map act_of l.acts));
}
