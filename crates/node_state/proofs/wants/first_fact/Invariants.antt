use Rattle.std.proofs.Common.{◌≡◌, length}
use Rattle.node_state.specs.Candidates.{first_wanted}
use Rattle.node_state.proofs.wants.first_fact.Given as goal

abbrev pub invariant-loop-rest : goal.invariant-loop-rest
invariant-loop-rest l = first_wanted l.facts l.rest ≡ first_wanted l.facts l.conds

abbrev pub decreases-loop-rest : goal.decreases-loop-rest
decreases-loop-rest l = length l.rest
