use Rattle.std.proofs.Common.{refl}
use Rattle.grounder.proofs.Leaves.{fold_number}
use Rattle.grounder.proofs.examples.written_twice.Goals as goal

pub returns : goal.returns
returns c = simp fold_number refl
