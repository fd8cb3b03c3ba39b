use Rattle.std.proofs.Common.{◌≡◌, ◌++◌, [], take, length}
use Rattle.std.specs.Prelude.{string_bytes}
use Rattle.std.specs.List.{flat_map}
use Rattle.ground_text.specs.Texts.{name_text, counted}
use Rattle.ground_text.specs.Completion.{filled}
use Rattle.ground_text.proofs.unwritten.put_filled_names.Given as goal

abbrev pub invariant-names : goal.invariant-names
invariant-names l = take l.limit (l.out.items ++ flat_map name_text (filled (string_bytes l.before) l.rest)) ≡ take l.limit (l.fn.out.items ++ counted name_text (filled [] l.names))

abbrev pub decreases-names : goal.decreases-names
decreases-names l = length l.rest
