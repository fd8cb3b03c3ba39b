use Rattle.std.proofs.Common.{◌≡◌, false}
use Rattle.machine_run.specs.Settling.{SettlesOn, unsettled}
use Rattle.machine_run.specs.Turns.{has_outcome}
use Rattle.machine_run.proofs.run.MachineRun.settle.Given as goal

abbrev pub invariant-loop : goal.invariant-loop
invariant-loop l = SettlesOn l.initial.self l.self × (has_outcome l.self.history ≡ false)

abbrev pub decreases-loop : goal.decreases-loop
decreases-loop l = unsettled l.self
