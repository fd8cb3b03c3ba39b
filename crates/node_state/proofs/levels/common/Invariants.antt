use Rattle.node_state.specs.Levels.{AreAlike}
use Rattle.node_state.proofs.levels.common.Given as goal

abbrev pub invariant-loop-index : goal.invariant-loop-index
invariant-loop-index l = AreAlike l.a l.b l.index
