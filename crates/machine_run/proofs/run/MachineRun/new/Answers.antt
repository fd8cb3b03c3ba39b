use Rattle.machine_run.proofs.Roots.{root-kept, root-rested}
use Rattle.machine_run.proofs.run.MachineRun.new.Goals as goal

pub invariant_of-result : goal.invariant_of-result
invariant_of-result c = root-kept _ _ _ _ c.requires.limits c.in_ok-frontier.ensures c.in_ok-history.ensures.0 c.new.ensures c.in_ok-history.ensures.1

pub returns-clause-rested : goal.returns-clause-rested
returns-clause-rested c = root-rested _ _ _ _ c.requires.limits c.in_ok-frontier.ensures c.in_ok-history.ensures.0
