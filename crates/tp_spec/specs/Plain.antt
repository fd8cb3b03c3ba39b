-- Plain problems: all that the first path solves.
use Rattle.std.specs.Prelude.{Bool, true, false, not, ◌&&◌}
use Rattle.std.specs.List.{list_all}
use Rattle.tp_spec.specs.Lists.{is_empty}
use Rattle.tp_spec.specs.Items.{is_durative_kind}
use Rattle.tp_spec.specs.declared.problem.Action.{Action}
use Rattle.tp_spec.specs.declared.problem.Cond.{Cond}
use Rattle.tp_spec.specs.declared.problem.Cond.TheVariants.{Lit, Compare}
use Rattle.tp_spec.specs.declared.problem.Problem.{Problem}

abbrev pub is_literal : Cond → Bool
is_literal (Lit fact positive) = true
is_literal (Compare op left right) = false

abbrev pub is_plain_action : Action → Bool
is_plain_action a = not (is_durative_kind a.kind) && list_all is_literal a.start_conds

-- every action is instant, and there are no fluents, no timed items and no comparisons
abbrev pub is_plain : Problem → Bool
is_plain p =
    is_empty p.fluents && is_empty p.timed && list_all is_plain_action p.actions
    && list_all is_literal p.goal
