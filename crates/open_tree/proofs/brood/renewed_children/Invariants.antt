use Rattle.std.proofs.Common.{take}
use Rattle.machine_run.specs.Views.{state}
use Rattle.open_tree.specs.Broods.{AreRenewed}
use Rattle.open_tree.proofs.brood.renewed_children.Given as goal

abbrev pub invariant-loop-child : goal.invariant-loop-child
invariant-loop-child l = AreRenewed l.run.problem l.run.limits (state l.run).commits l.word (take l.child-index l.child-items) l.children
