use Rattle.std.proofs.Common.{◌∙◌, ap}
use Rattle.std.specs.List.{list_all}
use Rattle.world_state.specs.Exact.{is_shallow}
use Rattle.node_state.proofs.Shallow.{goal_shallow}
use Rattle.node_state.proofs.ranks.unmet_after.Goals as goal

pub count_after-requires-clause-shallow : goal.count_after-requires-clause-shallow
count_after-requires-clause-shallow c = ap (list_all is_shallow) (c.as_slice.ensures ∙ ap (λ q. q.goal) c.problem.view_is) ∙ goal_shallow c.args.problem.now c.keeps_the_rules.ensures
