use Rattle.std.proofs.Common.{refl, sym, subst}
use Rattle.tp_spec.specs.WellFormed.{Ground, IsWellFormed}
use Rattle.grounder.specs.Pinned.{Trip, trip_problem}
use Rattle.grounder.proofs.Leaves.{fold_number}
use Rattle.grounder.proofs.examples.a_trip.Goals as goal

trip_is : Trip
trip_is = simp fold_number refl

pub returns-clause-problem : goal.returns-clause-problem
returns-clause-problem c = trip_is

pub returns-clause-fits : goal.returns-clause-fits
returns-clause-fits c = simp fold_number refl

keeps_rules : IsWellFormed trip_problem
keeps_rules = record {
  scaled = refl;
  fact_names = refl;
  fluent_names = refl;
  acting = refl;
  told_apart = refl;
  timing = refl;
  ticks_fit = refl;
  starting = refl;
  valued = refl;
  values_fit = refl;
  aiming = refl;
}

pub returns-clause-groundable : goal.returns-clause-groundable
returns-clause-groundable c = record {
  keeps = λ none. let P : Ground → Type 0 = λ p. IsWellFormed p in subst P (sym trip_is) keeps_rules;
}
