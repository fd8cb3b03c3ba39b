use Rattle.std.proofs.Common.{◌∙◌, ℕ, ◌+◌, ◌-◌, ◌*◌, ◌^◌, ◌<◌, get_or, length, drop, Option, None, ℤ, ap, sym, arith}
use Rattle.tp_spec.specs.declared.plan.Item.{Item}
use Rattle.tp_spec.specs.declared.plan.Item.TheVariants.{TimedAt}
use Rattle.tp_spec.specs.Items.{effects_of}
use Rattle.tp_spec.specs.States.{State}
use Rattle.world_state.specs.Happenings.{action_effects, changed_by}
use Rattle.world_state.specs.View.{meaning}
use Rattle.world_state.proofs.After.{items_change}
use Rattle.world_state.proofs.Bounds.{are_bounded_more, items_fit, item_more, drop_back_at}
use Rattle.world_state.proofs.changes.change_by_items.Goals as goal

pub change_by_effects-requires-clause-bounded : goal.change_by_effects-requires-clause-bounded
change_by_effects-requires-clause-bounded c =
    let n : ℕ = length c.args.items.now in
    are_bounded_more (2 ^ 63 + (n - c.loop-index.index) * 2 ^ 107) (2 ^ 125) c.loop-index.wide (items_fit n c.loop-index.index c.requires.few) c.loop-index.invariant.bounded

pub loop-index-preserved : goal.loop-index-preserved
loop-index-preserved c =
    let n : ℕ = length c.args.items.now in
    let i : ℕ = c.loop-index.index in
    let k : ℕ = length c.effects_of_action.result.now in
    let s : State = meaning c.args.state.now in
    let item : Item = get_or c.args.items.now (c.loop-index.index - 1) (TimedAt 0) in
    record {
      is = λ x below.
          let within : x < length c.loop-index.wide = omega arith in
          let old : Option ℤ = get_or c.args.wide.now x None in
          c.change_by_effects.ensures.is x within
          ∙ ap (λ es. changed_by s x es (get_or c.loop-index.wide x None)) c.effects_of_action.ensures.is
          ∙ ap (changed_by s x (action_effects c.args.problem.now item)) (c.loop-index.invariant.is x below)
          ∙ items_change c.args.problem.now s x item (drop i c.args.items.now) old
          ∙ sym (ap (λ is. changed_by s x (effects_of c.args.problem.now is) old) (drop_back_at c.args.items.now i (TimedAt 0) (omega arith) (omega arith)));
      bounded =
          are_bounded_more (2 ^ 63 + (n - i) * 2 ^ 107 + k * 2 ^ 95) (2 ^ 63 + (n - (i - 1)) * 2 ^ 107) c.change_by_effects.new.wide
          (item_more n i k (omega arith) (omega arith) c.effects_of_action.ensures.few)
          (c.change_by_effects.ensures.bounded (2 ^ 63 + (n - i) * 2 ^ 107) c.loop-index.invariant.bounded);
    }
