use Rattle.std.proofs.Common.{take}
use Rattle.std.specs.List.{list_any}
use Rattle.world_state.specs.Rows.{Loses}
use Rattle.node_state.specs.Ranks.{speaks_of}
use Rattle.node_state.proofs.ranks.drop_spoken.Given as goal

abbrev pub invariant-loop-cond : goal.invariant-loop-cond
invariant-loop-cond l = Loses l.initial.row l.row (λ f. list_any (speaks_of f) (take l.cond-index l.conds))
