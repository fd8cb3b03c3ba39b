use Rattle.snap_actions.proofs.Building.{took_conds_more}
use Rattle.snap_actions.proofs.tables.ItemRows.ask_all.Goals as goal

pub loop-cond-preserved : goal.loop-cond-preserved
loop-cond-preserved c =
    took_conds_more c.args.self.now c.loop-cond.self c.ask.new.self c.args.conds.now c.loop-cond.cond-index c.cond-item.result c.loop-cond-test.true c.cond-item.is
    c.loop-cond.invariant c.ask.ensures
