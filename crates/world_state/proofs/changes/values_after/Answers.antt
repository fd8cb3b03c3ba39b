use Rattle.world_state.specs.View.{meaning}
use Rattle.world_state.proofs.After.{new_values_at, values_result}
use Rattle.world_state.proofs.Counts.{few_items}
use Rattle.world_state.proofs.changes.values_after.Goals as goal

pub new_values-requires : goal.new_values-requires
new_values-requires c = few_items c.args.problem.now c.keeps_the_rules.ensures c.args.items.now c.requires.inside c.requires.different

pub returns : goal.returns
returns c =
    let p = c.args.problem.now in
    let v = c.args.state.now in
    values_result p c.keeps_the_rules.ensures c.args.items.now v c.deref.result.now c.in_ok-wide.ensures.kept
    (new_values_at p (meaning v) c.args.items.now v.values c.in_ok-wide.wide.items c.deref.result.now c.requires.of_problem.valued c.in_ok-wide.ensures.len c.in_ok-wide.ensures.is c.deref.ensures.value)
    c.narrowed.result c.narrowed.ensures
