use Rattle.tp_spec.specs.Interference.{asks}
use Rattle.node_state.proofs.Footing.{covers-more}
use Rattle.node_state.proofs.footprints.asked_bits.Goals as goal

pub loop-cond-preserved : goal.loop-cond-preserved
loop-cond-preserved c = covers-more asks c.args.conds.now c.loop-cond.cond-index c.cond-item.result c.loop-cond.bits c.asked_bit-bits.result c.loop-cond-test.true c.cond-item.is c.loop-cond.invariant c.asked_bit-bits.ensures
