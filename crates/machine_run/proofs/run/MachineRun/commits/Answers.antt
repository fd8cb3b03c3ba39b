use Rattle.std.proofs.Common.{sym, subst, ◌∙◌}
use Rattle.word_network.specs.Conditions.{AreCommits}
use Rattle.machine_run.specs.Views.{RunView}
use Rattle.machine_run.proofs.Dispatching.{commits-fit}
use Rattle.machine_run.proofs.run.MachineRun.commits.Goals as goal

pub returns-clause-committed : goal.returns-clause-committed
returns-clause-committed c =
    let fit = commits-fit _ c.self.invariant.stands in
    subst (λ (r : RunView). AreCommits r.problem c.acts.result.now) c.self.view_is
    (subst (AreCommits c.self.inside.problem.now) (sym (c.acts.ensures ∙ c.self.invariant.committed)) fit)
