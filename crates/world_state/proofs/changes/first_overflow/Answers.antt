use Rattle.tp_spec.specs.Items.{effects_of}
use Rattle.std.proofs.Common.{length}
use Rattle.world_state.specs.View.{meaning}
use Rattle.world_state.proofs.After.{new_values_at, each_fits, first_from}
use Rattle.world_state.proofs.Counts.{few_items}
use Rattle.world_state.proofs.changes.first_overflow.Goals as goal

pub new_values-requires : goal.new_values-requires
new_values-requires c = few_items c.args.problem.now c.keeps_the_rules.ensures c.args.items.now c.requires.inside c.requires.different

pub returns-clause-none : goal.returns-clause-none
returns-clause-none c = λ none x.
    let p = c.args.problem.now in
    let v = c.args.state.now in
    each_fits p c.keeps_the_rules.ensures c.args.items.now v c.deref.result.now c.in_ok-wide.ensures.kept
    (new_values_at p (meaning v) c.args.items.now v.values c.in_ok-wide.wide.items c.deref.result.now c.requires.of_problem.valued c.in_ok-wide.ensures.len c.in_ok-wide.ensures.is c.deref.ensures.value)
    (c.first_wide.ensures.none none) x

pub returns-clause-first : goal.returns-clause-first
returns-clause-first c =
    let p = c.args.problem.now in
    let v = c.args.state.now in
    first_from (meaning v) (effects_of p c.args.items.now) (length p.fluents) c.deref.result.now
    (new_values_at p (meaning v) c.args.items.now v.values c.in_ok-wide.wide.items c.deref.result.now c.requires.of_problem.valued c.in_ok-wide.ensures.len c.in_ok-wide.ensures.is c.deref.ensures.value)
    c.first_wide.result c.first_wide.ensures.some c.first_wide.ensures.first
