use Rattle.tp_laws.proofs.WordLaws.{word-laws}
use Rattle.tp_laws.proofs.plans.laws_of_words.Goals as goal

pub returns : goal.returns
returns c = word-laws
