use Rattle.std.proofs.Common.{◌≡◌, ◌++◌, take}
use Rattle.std.specs.Prelude.{decimal}
use Rattle.ground_text.specs.Texts.{listed}
use Rattle.ground_text.proofs.writing.put_indices.Given as goal

abbrev pub invariant-loop-index : goal.invariant-loop-index
invariant-loop-index l = l.out.items ≡ l.fn.out.items ++ listed decimal (take l.index-index l.indices)
