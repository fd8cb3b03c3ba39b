use Rattle.std.proofs.Common.{refl}
use Rattle.tp_laws.proofs.InstantOutlooks.{instants-by-mark, outlooks-by-mark}
use Rattle.tp_laws.proofs.instants.outlooks_by_mark.Goals as goal

pub returns-clause-instants : goal.returns-clause-instants
returns-clause-instants c = instants-by-mark

pub returns-clause-empty : goal.returns-clause-empty
returns-clause-empty c p = refl

pub returns-clause-longer : goal.returns-clause-longer
returns-clause-longer c = outlooks-by-mark
