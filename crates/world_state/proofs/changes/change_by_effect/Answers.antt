use Rattle.std.proofs.Common.{◌≡◌, ◌∙◌, ◌+◌, ◌^◌, ◌≤◌, get_or, true, None, ap, subst, lit≤, arith}
use Rattle.std.proofs.lemmas.Bool.{leb-true}
use Rattle.tp_spec.specs.WellFormed.{depth}
use Rattle.world_state.specs.Exact.{is_shallow_effect}
use Rattle.world_state.specs.Happenings.{new_value}
use Rattle.world_state.specs.View.{meaning}
use Rattle.world_state.proofs.After.{value_written}
use Rattle.world_state.proofs.Bounds.{reach_small, bounded_set, are_bounded_more}
use Rattle.world_state.proofs.changes.change_by_effect.Goals as goal

pub updated-requires-clause-operand_fits : goal.updated-requires-clause-operand_fits
updated-requires-clause-operand_fits c =
    let small : depth c.in-Change.value ≤ 32 = leb-true (depth c.in-Change.value) 32 (subst (λ e. is_shallow_effect e ≡ true) c.in-Change.is c.requires.shallow) in
    reach_small (depth c.in-Change.value) (2 ^ 95) c.value_in.result small (lit≤ tt) c.value_in.ensures.bounded

pub returns-then-index-wide-clause-is : goal.returns-then-index-wide-clause-is
returns-then-index-wide-clause-is c = λ x below.
    value_written (meaning c.args.state.now) c.args.wide.now c.args.effect.now c.in-Change.how c.in-Change.fluent c.in-Change.value c.updated.result
    c.in-Change.is c.if-index-wide.true
    (c.updated.ensures.is ∙ ap (new_value c.in-Change.how (get_or c.args.wide.now c.in-Change.fluent None)) c.value_in.ensures.is) x

pub returns-then-index-wide-clause-bounded : goal.returns-then-index-wide-clause-bounded
returns-then-index-wide-clause-bounded c = λ b h.
    let more : b ≤ b + 2 ^ 95 = omega arith in
    bounded_set (b + 2 ^ 95) c.args.wide.now c.in-Change.fluent c.updated.result (are_bounded_more b (b + 2 ^ 95) c.args.wide.now more h)
    (c.updated.ensures.bounded b (h c.in-Change.fluent))
