use Rattle.std.proofs.Common.{ap, ◌^◌, ◌-◌, pos, Some, None, [], ◌∷◌}
use Rattle.std.specs.Prelude.{◌+ℤ◌, ◌&&◌, true, if◌then◌else◌}
use Rattle.tp_spec.specs.declared.plan.Item.TheVariants.{End}
use Rattle.tp_spec.specs.States.{State, initial, of_both}
use Rattle.tp_spec.specs.Items.{next, effects_of, fits}
use Rattle.tp_laws.specs.Examples.{tank}
use Rattle.tp_laws.proofs.examples.states_after.Goals as goal
use Rattle.tp_spec.proofs.Leaves.{value_number}

pub returns : goal.returns
returns c =
    let s : State = initial (tank (pos (2 ^ 63 - 1))) in
    ap (λ v. if fits (of_both (λ m n. m +ℤ n) (Some (pos (2 ^ 63 - 1))) v) && true then Some (next s (effects_of (tank (pos (2 ^ 63 - 1))) (End 0 ∷ []))) else None) (value_number s (pos 1))
