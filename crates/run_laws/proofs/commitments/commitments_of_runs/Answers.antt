use Rattle.run_laws.proofs.Committing.{commits-grow, plans-shrink}
use Rattle.run_laws.proofs.commitments.commitments_of_runs.Goals as goal

pub returns-clause-grow : goal.returns-clause-grow
returns-clause-grow c p l formed = commits-grow p l

pub returns-clause-shrink : goal.returns-clause-shrink
returns-clause-shrink c p l formed = plans-shrink p l
