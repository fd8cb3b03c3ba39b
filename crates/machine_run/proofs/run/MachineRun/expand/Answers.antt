use Rattle.std.proofs.Common.{ap, ◌∙◌}
use Rattle.machine_run.specs.Turns.{has_outcome}
use Rattle.machine_run.proofs.Outcomes.{on-err}
use Rattle.machine_run.proofs.Holding.{held-none, expanded-none, expanded-turn}
use Rattle.machine_run.proofs.run.MachineRun.expand.Goals as goal

pub returns-in_err-replace-clause-err : goal.returns-in_err-replace-clause-err
returns-in_err-replace-clause-err c =
    on-err c.from_residual.result (ap has_outcome c.in_err-replace.ensures.same ∙ held-none c.args.self.now c.args.actor c.args.id c.requires.held)

pub settle-requires-clause-standing : goal.settle-requires-clause-standing
settle-requires-clause-standing c = expanded-none c.args.self.now c.replace.new.self c.args.actor c.args.id c.args.children.now c.requires.held c.in_ok-replace.ensures.ok

pub settle-requires-clause-turn : goal.settle-requires-clause-turn
settle-requires-clause-turn c = expanded-turn c.args.self.now c.replace.new.self c.args.actor c.args.id c.args.children.now c.requires.held c.in_ok-replace.ensures.ok
