use Rattle.std.proofs.Common.{◌≡◌, ◌++◌, take, length}
use Rattle.std.specs.Prelude.{decimal, codes}
use Rattle.std.specs.List.{flat_map}
use Rattle.ground_text.specs.Texts.{name_text}
use Rattle.ground_text.proofs.writing.put_names.Given as goal

abbrev pub invariant-loop-name : goal.invariant-loop-name
invariant-loop-name l = l.out.items ≡ l.fn.out.items ++ (decimal (length l.names) ++ codes "\n" ++ flat_map name_text (take l.name-index l.names))
