use Rattle.std.proofs.Common.{◌≡◌, ◌∙◌, ap, sym, true, ◌&&◌}
use Rattle.std.specs.List.{list_all}
use Rattle.tp_spec.specs.States.{State, holds}
use Rattle.tp_spec.specs.Items.{conditions, effects, is_defined}
use Rattle.world_state.specs.View.{meaning}
use Rattle.world_state.proofs.Problems.{defined_same}
use Rattle.world_state.proofs.conditions.can.Goals as goal

pub returns-then-all_hold : goal.returns-then-all_hold
returns-then-all_hold c =
    let s : State = meaning c.args.state.now in
    let met : list_all (holds s) (conditions c.args.problem.now c.args.item) ≡ true =
    ap (list_all (holds s)) (sym c.conditions_of.ensures.is) ∙ sym c.all_hold.ensures ∙ c.if-all_hold.true in
    c.all_defined.ensures ∙ ap (list_all (is_defined s)) c.effects_of_action.ensures.is ∙ defined_same c.args.problem.now s c.args.item
    ∙ ap (λ b. b && list_all (is_defined s) (effects c.args.problem.now c.args.item)) (sym met)
