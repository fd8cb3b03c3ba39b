use Rattle.std.proofs.Common.{refl}
use Rattle.tp_spec.proofs.Leaves.{value_number}
use Rattle.tp_spec.proofs.examples.courses.Goals as goal

pub returns-clause-states : goal.returns-clause-states
returns-clause-states c = (refl, refl, refl, simp (value_number) refl)

pub returns-clause-by_start : goal.returns-clause-by_start
returns-clause-by_start c = record { apart = refl; met = refl; exists = refl; kept = refl }

pub returns-clause-by_other : goal.returns-clause-by_other
returns-clause-by_other c = record { apart = refl; met = refl; exists = refl; kept = refl }

pub returns-clause-to_end : goal.returns-clause-to_end
returns-clause-to_end c = record { apart = refl; met = refl; exists = refl; kept = refl }

pub returns-clause-met_before : goal.returns-clause-met_before
returns-clause-met_before c = record { apart = refl; met = refl; exists = refl; kept = refl }
