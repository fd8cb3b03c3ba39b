use Rattle.node_state.specs.Candidates.{AreEmptyRows}
use Rattle.node_state.proofs.wants.empty_rows.Given as goal

abbrev pub invariant-loop-fact : goal.invariant-loop-fact
invariant-loop-fact l = AreEmptyRows l.problem l._fact-index l.rows.items
