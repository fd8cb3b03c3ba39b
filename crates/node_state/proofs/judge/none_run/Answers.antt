use Rattle.std.proofs.Common.{length}
use Rattle.node_state.proofs.Ranges.{none-in}
use Rattle.node_state.proofs.judge.none_run.Goals as goal

pub returns : goal.returns
returns c = none-in c.args.running.now (length c.args.problem.now.actions) c.meets.result c.meets.ensures c.requires
