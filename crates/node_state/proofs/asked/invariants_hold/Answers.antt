use Rattle.std.proofs.Common.{◌∙◌, ap}
use Rattle.std.specs.List.{list_all}
use Rattle.world_state.specs.Exact.{is_shallow}
use Rattle.node_state.proofs.Shallow.{invariants_shallow}
use Rattle.node_state.proofs.asked.invariants_hold.Goals as goal

pub all_hold-requires : goal.all_hold-requires
all_hold-requires c = ap (list_all is_shallow) c.invariants.ensures ∙ invariants_shallow c.args.problem.now c.keeps_the_rules.ensures c.args.action
