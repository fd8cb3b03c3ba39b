use Rattle.std.proofs.Common.{◌≡◌, ℕ, ◌+◌, ◌-◌, ◌*◌, ◌^◌, ◌<◌, length, get_or, drop, None}
use Rattle.tp_spec.specs.Items.{effects_of}
use Rattle.world_state.specs.Exact.{AreBounded}
use Rattle.world_state.specs.Happenings.{changed_by}
use Rattle.world_state.specs.View.{meaning}
use Rattle.world_state.proofs.changes.change_by_items.Given as goal

abbrev pub invariant-loop-index : goal.invariant-loop-index
invariant-loop-index l = record {
  is : (x : ℕ) → x < length l.initial.wide → get_or l.wide x None ≡ changed_by (meaning l.state) x (effects_of l.problem (drop l.index l.items)) (get_or l.initial.wide x None);
  bounded : AreBounded (2 ^ 63 + (length l.items - l.index) * 2 ^ 107) l.wide;
}
