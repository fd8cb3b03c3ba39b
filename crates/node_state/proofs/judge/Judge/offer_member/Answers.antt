use Rattle.node_state.specs.Readings.{progress_of}
use Rattle.node_state.proofs.Growing.{grew-passed}
use Rattle.node_state.proofs.judge.Judge.offer_member.Goals as goal

pub returns-then-fails_early : goal.returns-then-fails_early
returns-then-fails_early c = grew-passed c.args.self.now (progress_of c.args.reading.now) c.args.fresh c.args.found.now c.args.item (c.fails_early.ensures c.if-fails_early.true)
