use Rattle.std.proofs.Common.{◌≡◌, ◌∙◌, ◌<◌, ◌++◌, length, get_or, take, drop, None, ap, arith}
use Rattle.tp_spec.specs.Items.{effects_of}
use Rattle.world_state.specs.Happenings.{changed_by}
use Rattle.world_state.specs.View.{meaning}
use Rattle.world_state.proofs.After.{written_back, new_value_at}
use Rattle.world_state.proofs.changes.new_values.Goals as goal

pub returns-clause-is : goal.returns-clause-is
returns-clause-is c = λ x below.
    let old = c.in_ok-wide.wide.items in
    let new = c.change_by_items.new.wide in
    let kept : take c.in_ok-wide.wide.len (c.change_by_items.new.wide ++ drop (length c.change_by_items.new.wide) c.in_ok-wide.wide.items) ≡ c.change_by_items.new.wide =
    written_back c.in_ok-wide.wide.len new old c.in_ok-wide.wide.ok.0 (c.change_by_items.ensures.len ∙ ap length c.deref_mut.ensures.value) in
    let from : c.deref_mut.result.now ≡ c.args.state.now.values = c.deref_mut.ensures.value ∙ c.in_ok-wide.ensures.same ∙ c.values.ensures.values in
    let within : x < length c.deref_mut.result.now = omega (arith, ap length kept, c.change_by_items.ensures.len) in
    let inside : x < length c.args.state.now.values = omega (arith, ap length from) in
    ap (λ vs. get_or vs x None) kept
    ∙ c.change_by_items.ensures.is x within
    ∙ ap (λ vs. changed_by (meaning c.args.state.now) x (effects_of c.args.problem.now c.args.items.now) (get_or vs x None)) from
    ∙ new_value_at c.args.state.now x (effects_of c.args.problem.now c.args.items.now) inside
