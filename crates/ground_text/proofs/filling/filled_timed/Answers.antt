use Rattle.std.proofs.Common.{refl, ap, sym, ◌∙◌}
use Rattle.std.specs.List.{list_all}
use Rattle.std.specs.Vec.Iter.{into_iter_items}
use Rattle.ground_text.specs.Completion.{filled_timed}
use Rattle.ground_text.specs.Filling.{tick_of, tick_fits}
use Rattle.ground_text.proofs.Filled.{item_goes_on, item_fits, item_unfit, all_filled}
use Rattle.ground_text.proofs.filling.filled_timed.Goals as goal

pub loop-item-preserved : goal.loop-item-preserved
loop-item-preserved c =
    let is = rw c.in-Some-2.is at c.in_ok-item.ensures in
    rw c.in_ok-push-in-Some-2.ensures.items (record {
      filled =
          item_goes_on c.loop-item.filled.items (tick_of c.loop-item.next) c.in-Some.item _ _ c.in-Some-2.item _ _
          c.in-Some.ensures.steps.0 is c.next_tick-next.ensures.next c.loop-item.invariant.filled;
      fit = item_fits c.loop-item.filled.items c.in-Some-2.item c.loop-item.invariant.fit c.next_tick-next.ensures.fits;
    })

pub returns-in-None-2 : goal.returns-in-None-2
returns-in-None-2 c =
    item_unfit c.loop-item.filled.items (tick_of c.loop-item.next) c.in-Some.item _ _ _
    c.in-Some.ensures.steps.0 c.loop-item.invariant.filled (rw c.in-None-2.is at c.in_ok-item.ensures)

pub returns : goal.returns
returns c =
    let done = all_filled c.loop-item.filled.items (into_iter_items c.loop-item.item-iterator) _ (filled_timed (tick_of c.loop-item.next)) refl
    (sym c.loop-item.item-iterator.rest.ok.0 ∙ c.in-None.ensures.steps.0) c.loop-item.invariant.filled in
    (c.of.ensures ∙ done, ap (list_all tick_fits) c.of.ensures ∙ c.loop-item.invariant.fit)
