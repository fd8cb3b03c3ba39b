use Rattle.std.proofs.Common.{refl}
use Rattle.tp_spec.proofs.Leaves.{value_number}
use Rattle.tp_spec.proofs.examples.words.Goals as goal

pub returns-clause-not_closed : goal.returns-clause-not_closed
returns-clause-not_closed c = simp (value_number) refl

pub returns-clause-sound : goal.returns-clause-sound
returns-clause-sound c = record { follows = (refl, (refl, (refl, tt))) }

pub returns-clause-sound_by_before : goal.returns-clause-sound_by_before
returns-clause-sound_by_before c = (record { follows = (refl, (refl, tt)) }, record { follows = (refl, (refl, tt)) })
