use Rattle.node_state.specs.Footprints.{writes}
use Rattle.node_state.proofs.Footing.{covers-more}
use Rattle.node_state.proofs.footprints.written_bits.Goals as goal

pub loop-effect-preserved : goal.loop-effect-preserved
loop-effect-preserved c = covers-more writes c.args.effects.now c.loop-effect.effect-index c.effect-item.result c.loop-effect.bits c.written_bit-bits.result c.loop-effect-test.true c.effect-item.is c.loop-effect.invariant c.written_bit-bits.ensures
