use Rattle.std.proofs.Common.{refl}
use Rattle.tp_spec.proofs.Leaves.{value_number, value_fluent}
use Rattle.tp_spec.proofs.examples.items.Goals as goal

pub returns-clause-undefined : goal.returns-clause-undefined
returns-clause-undefined c e = (refl, refl, simp (value_number) refl)

pub returns-clause-undefined_right : goal.returns-clause-undefined_right
returns-clause-undefined_right c = (simp (value_fluent) refl, simp (value_fluent) refl, simp (value_fluent) refl)

pub returns-clause-own : goal.returns-clause-own
returns-clause-own c = (simp (value_number) refl, refl, refl)

pub returns-clause-changes : goal.returns-clause-changes
returns-clause-changes c = (
  simp (value_number) refl,
  simp (value_number) refl,
  simp (value_number) refl,
  simp (value_number) refl,
  simp (value_fluent) refl,
  refl,
)

pub returns-clause-states_after : goal.returns-clause-states_after
returns-clause-states_after c = (simp (value_number) refl, simp (value_number) refl)
