use Rattle.std.proofs.Common.{◌≡◌, ◌+◌, ◌≤◌, ◌++◌, drop, map, length}
use Rattle.std.specs.Prelude.{slice_index}
use Rattle.word_rows.specs.Rows.{open_acts}
use Rattle.word_network.specs.Parts.{act_of}
use Rattle.word_network.specs.Schedules.{ends_from}
use Rattle.word_network.proofs.reading.ends_of.Given as goal

abbrev pub invariant-loop-act : goal.invariant-loop-act
invariant-loop-act l = record {
  room : l.at + length (open_acts (map act_of (drop l.act-index l.acts))) ≤ length l.ticks;
  told : l.ends.items ++ ends_from (open_acts (map act_of (drop l.act-index l.acts))) (slice_index l.ticks) l.at ≡ ends_from (open_acts (map act_of l.acts)) (slice_index l.ticks) l.groups;
}
