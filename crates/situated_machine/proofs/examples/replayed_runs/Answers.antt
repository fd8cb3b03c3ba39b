use Rattle.std.proofs.Common.{refl}
use Rattle.situated_machine.proofs.Histories.{drive-kept, due-kept}
use Rattle.situated_machine.proofs.examples.replayed_runs.Goals as goal

pub returns-clause-whole : goal.returns-clause-whole
returns-clause-whole c = (drive-kept, refl)

pub returns-clause-empty : goal.returns-clause-empty
returns-clause-empty c = (tt, refl)

pub returns-clause-due : goal.returns-clause-due
returns-clause-due c = (due-kept, refl)
