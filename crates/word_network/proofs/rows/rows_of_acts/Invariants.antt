use Rattle.std.proofs.Common.{◌≡◌, ◌-◌, ◌++◌, take, map}
use Rattle.std.specs.List.{flat_map}
use Rattle.word_rows.specs.Rows.{rise_rows, length_rows, open_acts}
use Rattle.word_network.specs.Parts.{act_of}
use Rattle.word_network.proofs.rows.rows_of_acts.Given as goal

abbrev pub invariant-loop-act : goal.invariant-loop-act
invariant-loop-act l = l.rows.items ≡ rise_rows (l.groups - 1) ++ flat_map (length_rows l.problem l.groups (open_acts (map act_of l.acts))) (map act_of (take l.act-index l.acts))
