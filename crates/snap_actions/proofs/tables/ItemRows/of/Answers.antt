use Rattle.world_state.specs.Rows.{words_for}
use Rattle.snap_actions.proofs.Building.{rows_made}
use Rattle.snap_actions.proofs.tables.ItemRows.of.Goals as goal

pub returns : goal.returns
returns c =
    rows_made (words_for c.args.facts) (words_for c.args.fluents) c.in_ok-rows.rows c.ask_all.new.self c.include_all.new.self c.args.conds.now c.args.effects.now
    c.in_ok-rows.ensures c.ask_all.ensures c.include_all.ensures
