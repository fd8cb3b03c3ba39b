use Rattle.run_laws.proofs.Deadlines.{deadline-next, nothing-due}
use Rattle.run_laws.proofs.commitments.deadlines_and_dispatches.Goals as goal

pub returns-clause-next : goal.returns-clause-next
returns-clause-next c p l formed = deadline-next p l

pub returns-clause-none : goal.returns-clause-none
returns-clause-none c p l formed = nothing-due p l
