use Rattle.node_state.proofs.Insides.{cover-starts}
use Rattle.node_state.proofs.judge.Judge.offer_starts.Goals as goal

pub offer_row-requires-clause-covers : goal.offer_row-requires-clause-covers
offer_row-requires-clause-covers c = cover-starts c.args.self.now c.args.reading.now c.requires.reading
