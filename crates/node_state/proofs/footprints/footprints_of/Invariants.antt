use Rattle.std.proofs.Common.{◌≡◌, length}
use Rattle.node_state.specs.Judges.{item_of}
use Rattle.node_state.specs.Footprints.{AreFootprintsOf}
use Rattle.node_state.proofs.footprints.footprints_of.Given as goal

abbrev pub invariant-loop-index : goal.invariant-loop-index
invariant-loop-index l = (length l.footprints.items ≡ l.index) × AreFootprintsOf l.problem l.free (item_of l.starts) l.footprints.items
