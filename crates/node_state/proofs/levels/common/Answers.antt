use Rattle.node_state.proofs.Leveling.{alike-next}
use Rattle.node_state.proofs.levels.common.Goals as goal

pub loop-index-preserved : goal.loop-index-preserved
loop-index-preserved c =
    alike-next c.args.a.now c.args.b.now c.loop-index.index c.mark_at.result c.mark_at.ensures (c.is_at.ensures c.if-not-is_at.false) c.loop-index.invariant
