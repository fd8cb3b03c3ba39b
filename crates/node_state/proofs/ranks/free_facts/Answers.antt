use Rattle.std.proofs.Common.{◌∙◌, ap}
use Rattle.node_state.proofs.Ranking.{free-of}
use Rattle.node_state.proofs.ranks.free_facts.Goals as goal

pub returns : goal.returns
returns c = free-of c.args.problem.now c.in_ok-row.row c.drop_spoken.new.row c.as_slice-2.result.now (c.as_slice-2.ensures ∙ ap (λ q. q.goal) c.problem.view_is) c.drop_spoken.ensures
