use Rattle.node_state.proofs.Footing.{footprint-more, length-more}
use Rattle.node_state.proofs.footprints.footprints_of.Goals as goal

pub loop-index-preserved : goal.loop-index-preserved
loop-index-preserved c = (
  length-more c.loop-index.footprints.items c.push_footprint.new.footprints.items c.footprint_on-footprint.result c.loop-index.index c.in_ok-push_footprint.ensures c.loop-index.invariant.0,
  footprint-more c.args.problem.now c.args.free.now c.args.starts c.loop-index.footprints.items c.push_footprint.new.footprints.items c.footprint_on-footprint.result c.loop-index.index c.item-item.result c.conditions.result.now c.effects_of_action.result.now
      c.in_ok-push_footprint.ensures c.loop-index.invariant.0 c.loop-index.invariant.1 c.item-item.ensures c.conditions.ensures c.effects_of_action.ensures c.footprint_on-footprint.ensures,
)
