use Rattle.node_state.specs.Levels.{AreLevels, IsReadTo}
use Rattle.node_state.proofs.levels.descend.Given as goal

abbrev pub invariant-loop-index : goal.invariant-loop-index
invariant-loop-index l = record {
  levels : AreLevels l.problem l.word l.levels.items;
  top : IsReadTo l.problem l.word l.index l.top;
}
