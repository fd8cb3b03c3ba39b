use Rattle.std.proofs.Common.{◌≡◌, ◌∙◌, ℕ, refl, ap, [], Some, slice_get}
use Rattle.tp_spec.specs.declared.plan.Item.TheVariants.{TimedAt}
use Rattle.tp_spec.specs.Items.{timed_effects}
use Rattle.tp_spec.specs.Lists.{part_of}
use Rattle.snap_actions.specs.Tables.{AreItemRows}
use Rattle.snap_actions.proofs.Building.{got_at, item_rows_at, pushed_length, table_more}
use Rattle.snap_actions.proofs.tables.rows_of_timed.Goals as goal

pub loop-item-preserved : goal.loop-item-preserved
loop-item-preserved c =
    let p = c.args.problem.now in
    let i : ℕ = c.loop-item.item-index in
    let item = c.item-item.result in
    let row = c.in_ok-item_rows.item_rows in
    let got : Some item ≡ slice_get p.timed i =
    got_at c.as_slice-item-items.result.now p.timed i item (c.as_slice-item-items.ensures ∙ ap (λ q. q.timed) c.problem.view_is) c.loop-item-test.true c.item-item.is in
    let here : AreItemRows p (TimedAt i) row =
    item_rows_at p (TimedAt i) row c.as_slice-facts.result.now c.as_slice-fluents.result.now [] (timed_effects item)
    (c.as_slice-facts.ensures ∙ ap (λ q. q.facts) c.problem.view_is) (c.as_slice-fluents.ensures ∙ ap (λ q. q.fluents) c.problem.view_is)
    refl (ap (λ o. part_of o timed_effects) got) c.in_ok-item_rows.ensures in
    record {
      count = pushed_length c.loop-item.rows.items c.push_rows.new.rows.items row i c.in_ok-push_rows.ensures c.loop-item.invariant.count;
      each =
          table_more (λ a r. AreItemRows p (TimedAt a) r) c.loop-item.rows.items c.push_rows.new.rows.items row i c.in_ok-push_rows.ensures c.loop-item.invariant.count
          c.loop-item.invariant.each here;
    }
