use Rattle.std.proofs.Common.{◌≡◌, ◌++◌, []}
use Rattle.std.specs.Vec.Iter.{into_iter_items}
use Rattle.ground_text.specs.Completion.{filled_actions}
use Rattle.ground_text.proofs.filling.filled_actions.Given as goal

abbrev pub invariant-loop-action : goal.invariant-loop-action
invariant-loop-action l = l.items.items ++ filled_actions l.marks.items (into_iter_items l.action-iterator) ≡ filled_actions [] l.fn.actions
