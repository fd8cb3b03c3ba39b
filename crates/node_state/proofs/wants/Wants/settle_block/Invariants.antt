use Rattle.std.proofs.Common.{◌*◌, ◌+◌, ◌-◌, ◌≤◌}
use Rattle.world_state.specs.View.{meaning}
use Rattle.node_state.specs.Candidates.{mixed, IsCandidateRow}
use Rattle.node_state.proofs.wants.Wants.settle_block.Given as goal

abbrev pub invariant-loop-bit : goal.invariant-loop-bit
invariant-loop-bit l = (l.bit ≤ 64) × IsCandidateRow l.problem (mixed (64 * l.block + l.bit) (meaning l.new).fact (meaning l.old).fact) l.row

abbrev pub decreases-loop-bit : goal.decreases-loop-bit
decreases-loop-bit l = 64 - l.bit
