use Rattle.std.proofs.Common.{refl, sym, ◌∙◌}
use Rattle.std.specs.Vec.Iter.{into_iter_items}
use Rattle.ground_text.specs.Completion.{filled_actions}
use Rattle.ground_text.proofs.Filled.{action_goes_on, all_filled}
use Rattle.ground_text.proofs.filling.filled_actions.Goals as goal

pub loop-action-preserved : goal.loop-action-preserved
loop-action-preserved c =
    rw c.in_ok-push.ensures.items
    (action_goes_on c.loop-action.items.items c.loop-action.marks.items c.in-Some.action _ _ c.in_ok-action.action _ _
    c.in-Some.ensures.steps.0 (rw c.as_slice.ensures.value at c.in_ok-action.ensures)
    (rw c.as_str.ensures at c.in_ok-mark_name.ensures) c.loop-action.invariant)

pub returns : goal.returns
returns c =
    c.of.ensures
    ∙ all_filled c.loop-action.items.items (into_iter_items c.loop-action.action-iterator) _ (filled_actions c.loop-action.marks.items) refl
    (sym c.loop-action.action-iterator.rest.ok.0 ∙ c.in-None.ensures.steps.0) c.loop-action.invariant
