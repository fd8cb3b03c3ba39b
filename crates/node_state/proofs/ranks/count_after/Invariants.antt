use Rattle.std.proofs.Common.{◌≡◌, not, count_by, take}
use Rattle.world_state.specs.View.{meaning}
use Rattle.node_state.specs.Ranks.{holds_by}
use Rattle.node_state.proofs.ranks.count_after.Given as goal

abbrev pub invariant-loop-cond : goal.invariant-loop-cond
invariant-loop-cond l = l.count ≡ count_by (λ g. not (holds_by l.problem (meaning l.before) l.group l.effects g)) (take l.cond-index l.conds)
