use Rattle.std.proofs.Common.{◌≡◌, ◌∙◌, ℕ, ap, Some, slice_get}
use Rattle.tp_spec.specs.declared.plan.Item.TheVariants.{End}
use Rattle.tp_spec.specs.Lists.{part_of}
use Rattle.snap_actions.specs.Tables.{AreItemRows}
use Rattle.snap_actions.proofs.Building.{got_at, item_rows_at, pushed_length, table_more}
use Rattle.snap_actions.proofs.tables.rows_of_ends.Goals as goal

pub loop-action-preserved : goal.loop-action-preserved
loop-action-preserved c =
    let p = c.args.problem.now in
    let i : ℕ = c.loop-action.action-index in
    let item = c.action-item.result in
    let row = c.in_ok-item_rows.item_rows in
    let got : Some item ≡ slice_get p.actions i =
    got_at c.as_slice-action-items.result.now p.actions i item (c.as_slice-action-items.ensures ∙ ap (λ q. q.actions) c.problem.view_is) c.loop-action-test.true c.action-item.is in
    let here : AreItemRows p (End i) row =
    item_rows_at p (End i) row c.as_slice-facts.result.now c.as_slice-fluents.result.now c.as_slice-conds.result.now c.as_slice-effects.result.now
    (c.as_slice-facts.ensures ∙ ap (λ q. q.facts) c.problem.view_is) (c.as_slice-fluents.ensures ∙ ap (λ q. q.fluents) c.problem.view_is)
    (c.as_slice-conds.ensures ∙ ap (λ o. part_of o (λ x. x.end_conds)) got) (c.as_slice-effects.ensures ∙ ap (λ o. part_of o (λ x. x.end_effects)) got) c.in_ok-item_rows.ensures in
    record {
      count = pushed_length c.loop-action.rows.items c.push_rows.new.rows.items row i c.in_ok-push_rows.ensures c.loop-action.invariant.count;
      each =
          table_more (λ a r. AreItemRows p (End a) r) c.loop-action.rows.items c.push_rows.new.rows.items row i c.in_ok-push_rows.ensures c.loop-action.invariant.count
          c.loop-action.invariant.each here;
    }
