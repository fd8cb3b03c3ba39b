use Rattle.std.proofs.Common.{refl}
use Rattle.grounder.proofs.Leaves.{fold_number, fold_call}
use Rattle.grounder.proofs.examples.static_functions.Goals as goal

pub returns-clause-without_value : goal.returns-clause-without_value
returns-clause-without_value c = simp (fold_number, fold_call) refl

pub returns-clause-without_right : goal.returns-clause-without_right
returns-clause-without_right c = simp fold_call refl

pub returns-clause-replaced : goal.returns-clause-replaced
returns-clause-replaced c = simp fold_call refl
