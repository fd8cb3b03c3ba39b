use Rattle.std.proofs.Common.{◌≡◌, false, length}
use Rattle.tp_spec.specs.Machine.{MayAct}
use Rattle.machine_run.specs.Settling.{SettlesOn}
use Rattle.machine_run.specs.Turns.{has_outcome}
use Rattle.machine_run.specs.Views.{state}
use Rattle.machine_run.proofs.run.MachineRun.drop_dead.Given as goal

abbrev pub invariant-loop-least : goal.invariant-loop-least
invariant-loop-least l = record { settles : SettlesOn l.initial.self l.self; standing : has_outcome l.self.history ≡ false; may : MayAct l.self.problem l.self.limits (state l.self) l.actor }

abbrev pub decreases-loop-least : goal.decreases-loop-least
decreases-loop-least l = length l.self.frontier.nodes
