use Rattle.std.proofs.Common.{◌≡◌, ◌++◌, true}
use Rattle.std.specs.List.{list_all}
use Rattle.std.specs.Vec.Iter.{into_iter_items}
use Rattle.ground_text.specs.Completion.{filled_timed}
use Rattle.ground_text.specs.Filling.{tick_of, tick_fits}
use Rattle.ground_text.proofs.filling.filled_timed.Given as goal

abbrev pub invariant-loop-item : goal.invariant-loop-item
invariant-loop-item l = record {
  filled : l.filled.items ++ filled_timed (tick_of l.next) (into_iter_items l.item-iterator) ≡ filled_timed 0 l.fn.items;
  fit : list_all tick_fits l.filled.items ≡ true;
}
