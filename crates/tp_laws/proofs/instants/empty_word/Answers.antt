use Rattle.tp_laws.proofs.InstantActs.{empty-live}
use Rattle.tp_laws.proofs.instants.empty_word.Goals as goal

pub returns : goal.returns
returns c = empty-live
