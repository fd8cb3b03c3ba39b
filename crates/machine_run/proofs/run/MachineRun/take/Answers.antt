use Rattle.std.proofs.Common.{subst}
use Rattle.machine_run.specs.Settling.{FindsOpen}
use Rattle.machine_run.proofs.Taking.{finds-none}
use Rattle.machine_run.proofs.run.MachineRun.take.Goals as goal

pub returns-in-None-clause-taken : goal.returns-in-None-clause-taken
returns-in-None-clause-taken c =
    finds-none c.args.self.now c.drop_dead.new.self c.args.actor c.in_ok-drop_dead.ensures.settles c.in_ok-drop_dead.ensures.standing c.in_ok-drop_dead.ensures.may
    (subst (FindsOpen c.drop_dead.new.self) c.in-None.is c.in_ok-drop_dead.ensures.ok)
