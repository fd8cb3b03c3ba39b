use Rattle.std.proofs.Common.{◌≡◌, ◌++◌, take, length}
use Rattle.std.specs.Prelude.{decimal, codes}
use Rattle.std.specs.List.{flat_map}
use Rattle.ground_text.specs.Texts.{action_text}
use Rattle.ground_text.proofs.writing.put_actions.Given as goal

abbrev pub invariant-loop-action : goal.invariant-loop-action
invariant-loop-action l = l.out.items ≡ l.fn.out.items ++ (decimal (length l.actions) ++ codes "\n" ++ flat_map action_text (take l.action-index l.actions))
