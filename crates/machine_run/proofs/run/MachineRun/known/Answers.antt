use Rattle.std.proofs.Common.{ap, ◌∙◌, length, arith}
use Rattle.machine_run.proofs.Dispatching.{commits-few}
use Rattle.machine_run.proofs.run.MachineRun.known.Goals as goal

pub overflow_cast-result : goal.overflow_cast-result
overflow_cast-result c =
    let few = commits-few _ c.self.invariant.stands in
    omega (arith, ap length (c.acts.ensures ∙ c.self.invariant.committed), few)
