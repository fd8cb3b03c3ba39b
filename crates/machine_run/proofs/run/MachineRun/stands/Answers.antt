use Rattle.std.proofs.Common.{subst}
use Rattle.machine_run.specs.Frontiers.{CoversAll}
use Rattle.machine_run.specs.Views.{RunView, state}
use Rattle.machine_run.proofs.Standing.{covers-all}
use Rattle.machine_run.proofs.run.MachineRun.stands.Goals as goal

pub returns-clause-covered : goal.returns-clause-covered
returns-clause-covered c = subst (λ (r : RunView). CoversAll r.problem r.limits (state r)) c.self.view_is (covers-all _ c.self.invariant.stands)
