use Rattle.tick_network.proofs.Answering.{cut-above, cut-solution}
use Rattle.tick_network.proofs.solve.lower.Goals as goal

pub greatest_below-requires-clause-above : goal.greatest_below-requires-clause-above
greatest_below-requires-clause-above g c = cut-above c.args.net.now c.deref.result.now c.args.from.items c.cut.result.items c.requires.net c.deref.ensures.value c.requires.above c.cut.ensures.cut

pub returns-clause-solved : goal.returns-clause-solved
returns-clause-solved g c solution = c.greatest_below.ensures.solved (cut-solution c.args.net.now c.deref.result.now c.args.from.items c.cut.result.items c.requires.net c.deref.ensures.value c.cut.ensures.cut solution)
