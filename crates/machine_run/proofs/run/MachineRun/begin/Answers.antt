use Rattle.std.proofs.lemmas.Result.{on_ok_weaker}
use Rattle.machine_run.proofs.Settling.{ticked-some, begins}
use Rattle.machine_run.proofs.run.MachineRun.begin.Goals as goal

pub settle-requires-clause-turn : goal.settle-requires-clause-turn
settle-requires-clause-turn c = ticked-some c.args.self.now c.tick.new.self c.tick.new.self c.args.actor c.args.reading c.in_ok-tick.ensures.ok

pub returns-clause-begun : goal.returns-clause-begun
returns-clause-begun c =
    on_ok_weaker c.settle.result
    (begins c.args.self.now c.tick.new.self c.settle.new.self c.args.actor c.args.reading c.in_ok-tick.ensures.ok c.settle.ensures.settles.task c.settle.ensures.settles.events)
    c.settle.ensures.ok
