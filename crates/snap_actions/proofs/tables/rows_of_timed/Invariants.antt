use Rattle.std.proofs.Common.{◌≡◌, ℕ, length, Some, slice_get}
use Rattle.tp_spec.specs.declared.plan.Item.TheVariants.{TimedAt}
use Rattle.snap_actions.specs.declared.tables.ItemRows.{ItemRows}
use Rattle.snap_actions.specs.Tables.{AreItemRows}
use Rattle.snap_actions.proofs.tables.rows_of_timed.Given as goal

abbrev pub invariant-loop-item : goal.invariant-loop-item
invariant-loop-item l = record {
  count : length l.rows.items ≡ l.item-index;
  each : (a : ℕ) (r : ItemRows) → slice_get l.rows.items a ≡ Some r → AreItemRows l.problem (TimedAt a) r;
}
