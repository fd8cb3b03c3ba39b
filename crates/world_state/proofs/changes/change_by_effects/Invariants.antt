use Rattle.std.proofs.Common.{◌≡◌, ℕ, ◌+◌, ◌-◌, ◌*◌, ◌^◌, ◌<◌, length, get_or, drop, None}
use Rattle.world_state.specs.Exact.{AreBounded}
use Rattle.world_state.specs.Happenings.{changed_by}
use Rattle.world_state.specs.View.{meaning}
use Rattle.world_state.proofs.changes.change_by_effects.Given as goal

abbrev pub invariant-loop-index : goal.invariant-loop-index
invariant-loop-index l = record {
  is : (x : ℕ) → x < length l.initial.wide → get_or l.wide x None ≡ changed_by (meaning l.state) x (drop l.index l.effects) (get_or l.initial.wide x None);
  bounded : (b : ℕ) → AreBounded b l.initial.wide → AreBounded (b + (length l.effects - l.index) * 2 ^ 95) l.wide;
}
