use Rattle.tp_laws.proofs.States.{after-none, state_after-quiet}
use Rattle.tp_laws.proofs.laws.nothing_happens.Goals as goal

pub returns-clause-items : goal.returns-clause-items
returns-clause-items c = after-none

pub returns-clause-ticks : goal.returns-clause-ticks
returns-clause-ticks c = state_after-quiet
