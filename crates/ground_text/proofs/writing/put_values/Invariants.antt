use Rattle.std.proofs.Common.{◌≡◌, ◌++◌, take}
use Rattle.ground_text.specs.Texts.{listed, value_text}
use Rattle.ground_text.proofs.writing.put_values.Given as goal

abbrev pub invariant-loop-value : goal.invariant-loop-value
invariant-loop-value l = l.out.items ≡ l.fn.out.items ++ listed value_text (take l.value-index l.values)
