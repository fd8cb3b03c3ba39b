use Rattle.tp_laws.proofs.InstantMarks.{deadlines-by-mark}
use Rattle.tp_laws.proofs.instants.deadlines_of_instants.Goals as goal

pub returns : goal.returns
returns c = deadlines-by-mark
