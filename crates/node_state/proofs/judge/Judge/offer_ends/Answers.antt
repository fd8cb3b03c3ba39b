use Rattle.node_state.proofs.Insides.{cover-ends}
use Rattle.node_state.proofs.judge.Judge.offer_ends.Goals as goal

pub offer_row-requires-clause-covers : goal.offer_row-requires-clause-covers
offer_row-requires-clause-covers c = cover-ends c.args.self.now c.args.reading.now
