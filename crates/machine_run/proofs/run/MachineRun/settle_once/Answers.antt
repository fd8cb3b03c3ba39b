use Rattle.std.proofs.Common.{refl}
use Rattle.tp_spec.specs.declared.event.Event.TheVariants.{Exhaust}
use Rattle.machine_run.proofs.Outcomes.{outcome-behind}
use Rattle.machine_run.proofs.Settling.{settled-over}
use Rattle.machine_run.proofs.run.MachineRun.settle_once.Goals as goal

pub returns-in_ok-exhaust-in-None-clause-ok : goal.returns-in_ok-exhaust-in-None-clause-ok
returns-in_ok-exhaust-in-None-clause-ok c =
    settled-over c.exhaust.new.self (outcome-behind c.args.self.now.history Exhaust c.exhaust.new.self.history c.in_ok-exhaust-in-None.ensures.ok.history refl)
