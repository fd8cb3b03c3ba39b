use Rattle.snap_actions.proofs.Building.{took_effects_more}
use Rattle.snap_actions.proofs.tables.ItemRows.include_all.Goals as goal

pub loop-effect-preserved : goal.loop-effect-preserved
loop-effect-preserved c =
    took_effects_more c.args.self.now c.loop-effect.self c.include.new.self c.args.effects.now c.loop-effect.effect-index c.effect-item.result c.loop-effect-test.true c.effect-item.is
    c.loop-effect.invariant c.include.ensures
