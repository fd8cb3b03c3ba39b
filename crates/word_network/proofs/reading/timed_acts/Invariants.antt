use Rattle.std.proofs.Common.{◌≡◌, take, map}
use Rattle.std.specs.Prelude.{slice_index}
use Rattle.word_rows.specs.Rows.{open_acts}
use Rattle.word_network.specs.Parts.{act_of}
use Rattle.word_network.specs.Schedules.{timed_by}
use Rattle.word_network.proofs.reading.timed_acts.Given as goal

abbrev pub invariant-loop-act : goal.invariant-loop-act
invariant-loop-act l = l.timed.items ≡ map (timed_by l.groups (open_acts (map act_of l.acts)) (slice_index l.ticks)) (map act_of (take l.act-index l.acts))
