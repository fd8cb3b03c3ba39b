use Rattle.std.proofs.Common.{◌≡◌, ℕ, length, Some, slice_get}
use Rattle.tp_spec.specs.declared.plan.Item.TheVariants.{Start}
use Rattle.snap_actions.specs.declared.tables.ItemRows.{ItemRows}
use Rattle.snap_actions.specs.Tables.{AreItemRows}
use Rattle.snap_actions.proofs.tables.rows_of_starts.Given as goal

abbrev pub invariant-loop-action : goal.invariant-loop-action
invariant-loop-action l = record {
  count : length l.rows.items ≡ l.action-index;
  each : (a : ℕ) (r : ItemRows) → slice_get l.rows.items a ≡ Some r → AreItemRows l.problem (Start a) r;
}
