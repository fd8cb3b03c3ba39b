use Rattle.std.proofs.Common.{◌≡◌, refl, ◌∙◌, ◌++◌, List, ℕ}
use Rattle.std.specs.Prelude.{pos, negsuc, codes}
use Rattle.std.specs.Fmt.{digits}
use Rattle.tp_spec.specs.declared.expr.Expr.{roll-Expr}
use Rattle.tp_spec.specs.declared.expr.Expr.TheOpen.{Expr-F}
use Rattle.tp_spec.specs.declared.expr.Expr.TheFolds.{fold-roll-Expr}
use Rattle.ground_text.specs.Texts.{listed, expr_text, expr_text_at, cond_text, effect_text, body_text, action_text, timed_text, name_text, counted, header_text, problem_text}
use Rattle.ground_text.specs.Examples.{tank, one_left, owed}
use Rattle.ground_text.proofs.laws.example.Goals as goal

three_text : expr_text (roll-Expr (Expr-F.Number (pos 3))) ≡ codes "3"
unfolding expr_text digits
three_text = fold-roll-Expr (List ℕ) expr_text_at (Expr-F.Number (pos 3))

tank_text : expr_text tank ≡ codes "n0"
unfolding expr_text digits
tank_text = fold-roll-Expr (List ℕ) expr_text_at (Expr-F.Fluent 0)

owed_text : expr_text owed ≡ codes "-2"
unfolding expr_text digits
owed_text = fold-roll-Expr (List ℕ) expr_text_at (Expr-F.Number (negsuc 1))

split : expr_text one_left ≡ codes "(- " ++ expr_text tank ++ codes " " ++ expr_text (roll-Expr (Expr-F.Number (pos 3))) ++ codes ")"
unfolding expr_text
split = fold-roll-Expr (List ℕ) expr_text_at (Expr-F.Difference tank (roll-Expr (Expr-F.Number (pos 3))))

left_text : expr_text one_left ≡ codes "(- n0 3)"
left_text = split ∙ (λ i. codes "(- " ++ tank_text i ++ codes " " ++ three_text i ++ codes ")")

pub returns : goal.returns
unfolding listed cond_text effect_text body_text action_text timed_text name_text counted header_text problem_text digits
returns c = rw (left_text, owed_text, three_text) refl
