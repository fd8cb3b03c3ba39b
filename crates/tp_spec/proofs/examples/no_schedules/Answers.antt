use Rattle.std.proofs.Common.{refl, arith, inl, Some, None}
use Rattle.std.proofs.lemmas.Bool.{false≢true}
use Rattle.tp_spec.specs.Samples.{act, word_act}
use Rattle.tp_spec.proofs.examples.no_schedules.Goals as goal

pub returns-clause-not_rising : goal.returns-clause-not_rising
returns-clause-not_rising c x = let h = x.rises 0 (omega arith) in omega (arith, h)

pub returns-clause-not_within : goal.returns-clause-not_within
returns-clause-not_within c x = let h = x.within 0 (omega arith) in omega (arith, h)

pub returns-clause-not_timed : goal.returns-clause-not_timed
returns-clause-not_timed c x = let h = x.timed 0 in omega (arith, h)

pub returns-clause-not_before_next : goal.returns-clause-not_before_next
returns-clause-not_before_next c x = let h = x.before_next 0 (omega arith) in omega (arith, h)

pub returns-clause-too_short : goal.returns-clause-too_short
returns-clause-too_short c x = false≢true (x.lengths (word_act 0 0 (Some 1)) (inl refl)).allowed

pub returns-clause-too_long : goal.returns-clause-too_long
returns-clause-too_long c x = false≢true (x.lengths (word_act 0 0 None) (inl refl)).allowed

pub returns-clause-not_ending_within : goal.returns-clause-not_ending_within
returns-clause-not_ending_within c x = let h = (x.lengths (word_act 0 0 None) (inl refl)).within in omega (arith, h)

pub returns-clause-not_open_late : goal.returns-clause-not_open_late
returns-clause-not_open_late c x = let h = x.open_late (word_act 0 0 None) 1 (inl refl) refl (omega arith) in omega (arith, h)

pub returns-clause-not_at_clock : goal.returns-clause-not_at_clock
returns-clause-not_at_clock c x = let h = x.on_time 1 0 in omega (arith, h)

pub returns-clause-second_too_early : goal.returns-clause-second_too_early
returns-clause-second_too_early c x = let h = x.on_time 1 1 in omega (arith, h)

pub returns-clause-wrong_commitment : goal.returns-clause-wrong_commitment
returns-clause-wrong_commitment c x = let h = (x.on_time 1 0).0 in omega (arith, h)

pub returns-clause-wrong_length : goal.returns-clause-wrong_length
returns-clause-wrong_length c x = let h = (x.on_time 0 0).1 in omega (arith, h)

pub returns-clause-not_owing : goal.returns-clause-not_owing
returns-clause-not_owing c x = let h = x.late (act 0 3 0) 0 (inl refl) (omega arith) in omega (arith, h)

pub returns-clause-too_many : goal.returns-clause-too_many
returns-clause-too_many c x = let h = x.few in omega (arith, h)
