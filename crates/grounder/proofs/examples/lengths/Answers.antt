use Rattle.std.proofs.Common.{refl}
use Rattle.grounder.proofs.Leaves.{fold_number}
use Rattle.grounder.proofs.examples.lengths.Goals as goal

pub returns-clause-empty : goal.returns-clause-empty
returns-clause-empty c = simp fold_number refl

pub returns-clause-ranges : goal.returns-clause-ranges
returns-clause-ranges c = simp fold_number refl
