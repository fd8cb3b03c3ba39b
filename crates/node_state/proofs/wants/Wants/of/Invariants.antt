use Rattle.node_state.specs.Candidates.{AreWantsBelow}
use Rattle.node_state.proofs.wants.Wants.of.Given as goal

abbrev pub invariant-loop-index : goal.invariant-loop-index
invariant-loop-index l = AreWantsBelow l.problem l.index l.rows.items
