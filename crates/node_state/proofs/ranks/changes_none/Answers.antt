use Rattle.std.proofs.Common.{◌∙◌, sym, ap}
use Rattle.node_state.specs.Ranks.{writes_facts}
use Rattle.node_state.proofs.Ranking.{timed-writes}
use Rattle.node_state.proofs.ranks.changes_none.Goals as goal

pub returns-in-TimedAt : goal.returns-in-TimedAt
returns-in-TimedAt c = sym (ap (writes_facts c.args.problem.now) c.in-TimedAt.is ∙ timed-writes c.args.problem.now c.in-TimedAt.field-0)
