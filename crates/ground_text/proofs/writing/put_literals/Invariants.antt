use Rattle.std.proofs.Common.{◌≡◌, ◌++◌, ◌+◌, length}
use Rattle.ground_text.specs.Texts.{listed, effect_text, merged}
use Rattle.ground_text.proofs.writing.put_literals.Given as goal

abbrev pub invariant-literals : goal.invariant-literals
invariant-literals l = l.out.items ++ listed effect_text (merged l.adds l.deletes) ≡ l.fn.out.items ++ listed effect_text (merged l.fn.adds l.fn.deletes)

abbrev pub decreases-literals : goal.decreases-literals
decreases-literals l = length l.adds + length l.deletes
