use Rattle.node_state.specs.Candidates.{IsCandidateRowBelow}
use Rattle.world_state.specs.View.{meaning}
use Rattle.node_state.proofs.wants.candidates.Given as goal

abbrev pub invariant-loop-index : goal.invariant-loop-index
invariant-loop-index l = IsCandidateRowBelow l.problem (meaning l.state).fact l.index l.row
