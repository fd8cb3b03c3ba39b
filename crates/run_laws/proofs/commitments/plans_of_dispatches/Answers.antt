use Rattle.run_laws.proofs.Agreeing.{dispatch-keeps}
use Rattle.run_laws.proofs.Committing.{dispatch-live}
use Rattle.run_laws.proofs.Starts.{starts-committed}
use Rattle.run_laws.proofs.commitments.plans_of_dispatches.Goals as goal

pub returns-clause-keeps : goal.returns-clause-keeps
returns-clause-keeps c p l formed = dispatch-keeps p l

pub returns-clause-live : goal.returns-clause-live
returns-clause-live c p l formed = dispatch-live p l

pub returns-clause-starts : goal.returns-clause-starts
returns-clause-starts c = starts-committed
