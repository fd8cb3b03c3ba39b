use Rattle.node_state.proofs.Closing.{runs-on}
use Rattle.node_state.proofs.running.run_on.Goals as goal

pub returns-clause-runs : goal.returns-clause-runs
returns-clause-runs c =
    runs-on c.args.problem.now c.args.group.now c.args.running.now c.take_ended.new.running c.put_started.new.running c.requires.wide c.take_ended.ensures c.put_started.ensures
