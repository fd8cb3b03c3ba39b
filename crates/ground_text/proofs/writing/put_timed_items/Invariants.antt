use Rattle.std.proofs.Common.{◌≡◌, ◌++◌, take, length}
use Rattle.std.specs.Prelude.{decimal, codes}
use Rattle.std.specs.List.{flat_map}
use Rattle.ground_text.specs.Texts.{timed_text}
use Rattle.ground_text.proofs.writing.put_timed_items.Given as goal

abbrev pub invariant-loop-item : goal.invariant-loop-item
invariant-loop-item l = l.out.items ≡ l.fn.out.items ++ (decimal (length l.items) ++ codes "\n" ++ flat_map timed_text (take l.item-index l.items))
