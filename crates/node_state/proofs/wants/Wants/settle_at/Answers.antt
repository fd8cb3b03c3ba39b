use Rattle.world_state.specs.View.{meaning}
use Rattle.node_state.specs.Candidates.{mixed}
use Rattle.node_state.proofs.Granting.{row-taken}
use Rattle.node_state.proofs.wants.Wants.settle_at.Goals as goal

pub returns : goal.returns
returns c =
    row-taken c.args.problem.now c.args.fact (meaning c.args.new.now).fact (meaning c.args.old.now).fact c.has-holds.result c.settle_fact.new.row c.has-holds.ensures
    (c.settle_fact.ensures (mixed c.args.fact (meaning c.args.new.now).fact (meaning c.args.old.now).fact) c.requires.candidates)
