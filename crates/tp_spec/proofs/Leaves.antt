-- Values of numbers and fluents, and what they read: an expression does not compute by itself.
use Rattle.std.proofs.Common.{◌≡◌, ap, sym, ◌∙◌}
use Rattle.std.specs.Prelude.{ℕ, Bool, false, ◌==◌, Option, Some, ℤ}
use Rattle.tp_spec.specs.declared.expr.Expr.TheVariants.{Number, Fluent, Difference, rolls-Number, rolls-Fluent, rolls-Difference}
use Rattle.tp_spec.specs.declared.expr.Expr.{Expr}
use Rattle.tp_spec.specs.declared.expr.Expr.TheFolds.{fold-roll-Expr}
use Rattle.tp_spec.specs.declared.expr.Expr.TheOpen.{Expr-F}
use Rattle.tp_spec.specs.States.{State, value, value_at}
use Rattle.tp_spec.specs.Interference.{reads, reads_at}

pub value_number : (s : State) (n : ℤ) → value s (Number n) ≡ Some n
value_number s n = ap (value s) (sym (rolls-Number n)) ∙ fold-roll-Expr (Option ℤ) (value_at s) (Expr-F.Number n)

pub value_fluent : (s : State) (x : ℕ) → value s (Fluent x) ≡ s.fluent x
value_fluent s x = ap (value s) (sym (rolls-Fluent x)) ∙ fold-roll-Expr (Option ℤ) (value_at s) (Expr-F.Fluent x)

pub value_difference : (s : State) (a b : Expr) → value s (Difference a b) ≡ value_at s (Expr-F.Difference (value s a) (value s b))
value_difference s a b = ap (value s) (sym (rolls-Difference a b)) ∙ fold-roll-Expr (Option ℤ) (value_at s) (Expr-F.Difference a b)

pub reads_number : (x : ℕ) (n : ℤ) → reads x (Number n) ≡ false
reads_number x n = ap (reads x) (sym (rolls-Number n)) ∙ fold-roll-Expr Bool (reads_at x) (Expr-F.Number n)

pub reads_fluent : (x y : ℕ) → reads x (Fluent y) ≡ (x == y)
reads_fluent x y = ap (reads x) (sym (rolls-Fluent y)) ∙ fold-roll-Expr Bool (reads_at x) (Expr-F.Fluent y)
