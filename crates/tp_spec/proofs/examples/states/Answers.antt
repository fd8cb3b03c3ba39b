use Rattle.std.proofs.Common.{ap, refl, ◌∙◌}
use Rattle.std.specs.Prelude.{pos, Some, None}
use Rattle.tp_spec.specs.declared.expr.Expr.TheVariants.{Fluent}
use Rattle.tp_spec.specs.declared.expr.Expr.TheOpen.{Expr-F}
use Rattle.tp_spec.specs.Lists.{some_and}
use Rattle.tp_spec.specs.States.{value, value_at, of_both, compares}
use Rattle.tp_spec.specs.Samples.{sample, two}
use Rattle.tp_spec.proofs.Leaves.{value_number, value_fluent, value_difference}
use Rattle.tp_spec.proofs.examples.states.Goals as goal

pub returns-clause-values : goal.returns-clause-values
returns-clause-values c =
    let s = sample (Some (pos 5)) None in
    value_difference s (Fluent 0) two
    ∙ ap (λ v. value_at s (Expr-F.Difference v (value s two))) (value_fluent s 0)
    ∙ ap (λ v. value_at s (Expr-F.Difference (Some (pos 5)) v)) (value_number s (pos 2))

pub returns-clause-undefined : goal.returns-clause-undefined
returns-clause-undefined c op e = ap (λ v. some_and (of_both (compares op) v (value (sample None None) e)) (λ b. b)) (value_fluent (sample None None) 0)

pub returns-clause-compared_sides : goal.returns-clause-compared_sides
returns-clause-compared_sides c = (simp (value_fluent, value_number) refl, simp (value_fluent, value_number) refl)
