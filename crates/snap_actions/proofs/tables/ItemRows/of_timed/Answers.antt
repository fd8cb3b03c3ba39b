use Rattle.world_state.specs.Rows.{words_for}
use Rattle.snap_actions.proofs.Building.{timed_rows}
use Rattle.snap_actions.proofs.tables.ItemRows.of_timed.Goals as goal

pub returns : goal.returns
returns c =
    timed_rows (words_for c.args.facts) (words_for c.args.fluents) c.in_ok-rows.rows c.insert_each.new.self c.insert_each-2.new.self c.args.timed.now
    c.as_slice.result.now c.as_slice-2.result.now c.in_ok-rows.ensures c.as_slice.ensures c.as_slice-2.ensures c.insert_each.ensures c.insert_each-2.ensures
