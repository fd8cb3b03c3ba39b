use Rattle.std.proofs.Common.{◌≡◌, ℕ, ◌<◌, true, take, get_or, None}
use Rattle.std.specs.List.{list_all}
use Rattle.tp_spec.specs.Items.{fits}
use Rattle.world_state.proofs.changes.first_wide.Given as goal

abbrev pub invariant-loop-index : goal.invariant-loop-index
invariant-loop-index l = record {
  below : (k : ℕ) → k < l.index → fits (get_or l.values k None) ≡ true;
  all : list_all fits (take l.index l.values) ≡ true;
}
