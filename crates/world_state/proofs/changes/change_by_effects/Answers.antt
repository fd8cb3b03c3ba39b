use Rattle.std.proofs.Common.{◌∙◌, ℕ, ◌+◌, ◌-◌, ◌*◌, ◌^◌, ◌<◌, get_or, length, None, ap, sym, arith}
use Rattle.tp_spec.specs.Items.{change}
use Rattle.world_state.specs.Happenings.{changed_by}
use Rattle.world_state.specs.View.{meaning}
use Rattle.world_state.proofs.Bounds.{are_bounded_more, effects_fit, effect_more, effects_all, drop_back}
use Rattle.world_state.proofs.changes.change_by_effects.Goals as goal

pub change_by_effect-requires-clause-bounded : goal.change_by_effect-requires-clause-bounded
change_by_effect-requires-clause-bounded c =
    let n : ℕ = length c.args.effects.now in
    are_bounded_more (2 ^ 125 + (n - c.loop-index.index) * 2 ^ 95) (2 ^ 126) c.loop-index.wide (effects_fit n c.loop-index.index c.requires.few)
    (c.loop-index.invariant.bounded (2 ^ 125) c.requires.bounded)

pub loop-index-preserved : goal.loop-index-preserved
loop-index-preserved c =
    let n : ℕ = length c.args.effects.now in
    let i : ℕ = c.loop-index.index in
    record {
      is = λ x below.
          let within : x < length c.loop-index.wide = omega arith in
          c.change_by_effect.ensures.is x within
          ∙ ap (change (meaning c.args.state.now) x c.index-effects-index.result) (c.loop-index.invariant.is x below)
          ∙ sym (ap (λ es. changed_by (meaning c.args.state.now) x es (get_or c.args.wide.now x None))
          (drop_back c.args.effects.now i c.index-effects-index.result (omega arith) (omega arith) c.index-effects-index.is));
      bounded = λ b h.
          are_bounded_more (b + (n - i) * 2 ^ 95 + 2 ^ 95) (b + (n - (i - 1)) * 2 ^ 95) c.change_by_effect.new.wide (effect_more b n i (omega arith) (omega arith))
          (c.change_by_effect.ensures.bounded (b + (n - i) * 2 ^ 95) (c.loop-index.invariant.bounded b h));
    }

pub returns-clause-bounded : goal.returns-clause-bounded
returns-clause-bounded c = λ b h.
    let n : ℕ = length c.args.effects.now in
    are_bounded_more (b + (n - c.loop-index.index) * 2 ^ 95) (b + n * 2 ^ 95) c.loop-index.wide (effects_all b n c.loop-index.index (omega arith))
    (c.loop-index.invariant.bounded b h)
