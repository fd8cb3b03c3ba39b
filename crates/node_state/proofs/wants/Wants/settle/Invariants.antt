use Rattle.std.proofs.Common.{◌*◌}
use Rattle.world_state.specs.View.{meaning}
use Rattle.node_state.specs.Candidates.{mixed, IsCandidateRow}
use Rattle.node_state.proofs.wants.Wants.settle.Given as goal

abbrev pub invariant-loop-block : goal.invariant-loop-block
invariant-loop-block l = IsCandidateRow l.problem (mixed (64 * l.block) (meaning l.new).fact (meaning l.old).fact) l.row
