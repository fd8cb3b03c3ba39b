use Rattle.std.proofs.Common.{◌∙◌}
use Rattle.node_state.proofs.Ranking.{timed-adds-it}
use Rattle.node_state.proofs.ranks.adds.Goals as goal

pub returns-in-Some : goal.returns-in-Some
returns-in-Some c =
    c.is_among.ensures
    ∙ timed-adds-it c.args.problem.now c.args.item c.in-TimedAt.number c.in-Some.timed.now c.as_slice.result.now c.args.fact c.in-TimedAt.is c.in-Some.ensures c.as_slice.ensures
