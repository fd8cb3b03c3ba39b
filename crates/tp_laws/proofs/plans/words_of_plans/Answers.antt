use Rattle.tp_laws.proofs.WordOfPlans.{spell-sound, spell-whole}
use Rattle.tp_laws.proofs.plans.words_of_plans.Goals as goal

pub returns-clause-sound : goal.returns-clause-sound
returns-clause-sound c = spell-sound

pub returns-clause-whole : goal.returns-clause-whole
returns-clause-whole c = spell-whole
