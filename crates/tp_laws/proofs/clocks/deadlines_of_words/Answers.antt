use Rattle.tp_laws.proofs.ClockLaws.{greatest-deadline}
use Rattle.tp_laws.proofs.clocks.deadlines_of_words.Goals as goal

pub returns : goal.returns
returns c = greatest-deadline
