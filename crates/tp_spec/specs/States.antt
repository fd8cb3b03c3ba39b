-- States, the values of expressions, and which conditions hold.
use Rattle.std.specs.Prelude.{ℕ, Bool, true, false, not, ◌==◌, ℤ, ◌+ℤ◌, ◌-ℤ◌, Option, Some, None, int_lt, int_le, slice_get}
use Rattle.std.specs.List.{list_any}
use Rattle.std.specs.Option.{option_and_then}
use Rattle.std.specs.Ordering.{int_eq}
use Rattle.tp_spec.specs.Lists.{some_and}
use Rattle.tp_spec.specs.declared.expr.Expr.{Expr, fold-Expr}
use Rattle.tp_spec.specs.declared.expr.Expr.TheOpen.{Expr-F}
use Rattle.tp_spec.specs.declared.problem.Op.{Op}
use Rattle.tp_spec.specs.declared.problem.Op.TheVariants.{Less, LessEq, Equal, MoreEq, More}
use Rattle.tp_spec.specs.declared.problem.Cond.{Cond}
use Rattle.tp_spec.specs.declared.problem.Cond.TheVariants.{Lit, Compare}
use Rattle.tp_spec.specs.declared.problem.Problem.{Problem}

-- Which facts are true, and the value of each fluent, or none where it is undefined.
-- PDDL 2.1, section 3: a logical state and a vector of values. The code has bit rows and an array.
pub record State : Type 0 where
  pub fact : ℕ → Bool
  pub fluent : ℕ → Option ℤ

-- The state in which a problem begins.
-- PDDL 2.1, section 3. The code sets bits of a row and copies an array.
abbrev pub initial : Problem → State
initial p = record {
  fact = λ f. list_any (λ g. f == g) p.init;
  fluent = λ x. option_and_then (λ v. v) (slice_get p.values x);
}

-- a result of two numbers that may be undefined
abbrev pub of_both : {A : Type 0} → (ℤ → ℤ → A) → Option ℤ → Option ℤ → Option A
of_both f (Some a) (Some b) = Some (f a b)
of_both f (Some a) None = None
of_both f None b = None

abbrev pub value_at : State → Expr-F (Option ℤ) → Option ℤ
value_at s (Expr-F.Number n) = Some n
value_at s (Expr-F.Fluent x) = s.fluent x
value_at s (Expr-F.Sum a b) = of_both (λ m n. m +ℤ n) a b
value_at s (Expr-F.Difference a b) = of_both (λ m n. m -ℤ n) a b

-- The exact value of an expression, undefined where a fluent in it is.
-- PDDL 2.1, section 3. The code adds in 128 bits, which is enough for 32 operations on 64 bits.
abbrev pub value : State → Expr → Option ℤ
value s e = fold-Expr (Option ℤ) (value_at s) e

abbrev pub compares : Op → ℤ → ℤ → Bool
compares Less m n = int_lt m n
compares LessEq m n = int_le m n
compares Equal m n = int_eq m n
compares MoreEq m n = int_le n m
compares More m n = int_lt n m

-- Whether a condition holds: a literal by membership, a comparison where both sides are defined and
-- compare so. PDDL 2.1, section 3. The code reads a bit, and two numbers of the array.
abbrev pub holds : State → Cond → Bool
holds s (Lit fact true) = s.fact fact
holds s (Lit fact false) = not (s.fact fact)
holds s (Compare op left right) =
    some_and (of_both (compares op) (value s left) (value s right)) (λ b. b)
