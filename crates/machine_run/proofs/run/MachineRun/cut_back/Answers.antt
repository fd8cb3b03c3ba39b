use Rattle.std.proofs.Common.{sym, subst}
use Rattle.machine_run.specs.Deeds.{HasStart}
use Rattle.machine_run.specs.Views.{RunView}
use Rattle.machine_run.proofs.Standing.{kept-cut}
use Rattle.machine_run.proofs.run.MachineRun.cut_back.Goals as goal

pub invariant_of-self : goal.invariant_of-self
invariant_of-self c =
    kept-cut c.self.invariant c.args.start c.args.held _ _ (c.commitments_of_runs.ensures.grow _ _ c.self.invariant.stands.formed) (subst (λ (r : RunView). HasStart r c.args.start c.args.held) (sym c.self.view_is) c.requires.start) c.truncate.ensures.items c.cut_back.ensures c.push_reserved.ensures.items
