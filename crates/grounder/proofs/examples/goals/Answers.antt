use Rattle.std.proofs.Common.{refl}
use Rattle.grounder.proofs.Leaves.{fold_number, fold_call}
use Rattle.grounder.proofs.examples.goals.Goals as goal

pub returns-clause-goals : goal.returns-clause-goals
returns-clause-goals c = simp fold_number refl

pub returns-clause-fluents : goal.returns-clause-fluents
returns-clause-fluents c = simp fold_call (refl, refl, refl)
