use Rattle.machine_run.proofs.Settling.{turn-goes-on}
use Rattle.machine_run.proofs.run.MachineRun.settle.Goals as goal

pub settle_once-requires-clause-turn : goal.settle_once-requires-clause-turn
settle_once-requires-clause-turn c = turn-goes-on c.args.self.now c.loop.self c.loop.invariant.0 c.requires.turn
