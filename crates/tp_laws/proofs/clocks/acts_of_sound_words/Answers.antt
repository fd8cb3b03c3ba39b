use Rattle.tp_laws.proofs.ClockActs.{sound-acts}
use Rattle.tp_laws.proofs.clocks.acts_of_sound_words.Goals as goal

pub returns : goal.returns
returns c = sound-acts
