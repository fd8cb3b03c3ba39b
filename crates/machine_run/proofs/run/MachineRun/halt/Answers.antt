use Rattle.std.proofs.Common.{sym, subst}
use Rattle.machine_run.specs.Deeds.{IsRested}
use Rattle.machine_run.proofs.Standing.{kept-halt}
use Rattle.machine_run.proofs.run.MachineRun.halt.Goals as goal

pub invariant_of-self : goal.invariant_of-self
invariant_of-self c = kept-halt c.self.invariant c.args.cause _ (subst IsRested (sym c.self.view_is) c.requires.rested) c.push_reserved.ensures.items
