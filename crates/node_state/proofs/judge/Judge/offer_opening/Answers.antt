use Rattle.node_state.specs.Readings.{progress_of}
use Rattle.node_state.proofs.Growing.{took-opening}
use Rattle.node_state.proofs.judge.Judge.offer_opening.Goals as goal

pub returns : goal.returns
returns c = λ d h. took-opening c.args.self.now d (progress_of c.args.closed.now) c.args.found.now c.offer_all.new.found h.closes h.progress c.in_ok-offer_all.ensures
