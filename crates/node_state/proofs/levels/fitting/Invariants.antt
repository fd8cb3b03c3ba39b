use Rattle.std.proofs.Common.{◌≡◌, true, take}
use Rattle.std.specs.List.{list_all}
use Rattle.node_state.specs.Levels.{fits}
use Rattle.node_state.proofs.levels.fitting.Given as goal

abbrev pub invariant-loop-index : goal.invariant-loop-index
invariant-loop-index l = list_all (fits l.word l.common) (take l.index l.levels) ≡ true
