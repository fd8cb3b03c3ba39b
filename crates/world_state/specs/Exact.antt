-- What keeps sums exact in 128 bits: expressions are at most 32 operations deep, and values have 64
-- bits.
use Rattle.std.specs.Prelude.{ℕ, ℤ, pos, neg_ℤ, ◌≤ℤ◌, Bool, true, ◌&&◌, nat_le, ◌≤◌, Option, Some, None, List, length, get_or, IsTrue}
use Rattle.std.specs.List.{list_all}
use Rattle.tp_spec.specs.declared.problem.Action.{Action}
use Rattle.tp_spec.specs.declared.problem.Cond.{Cond}
use Rattle.tp_spec.specs.declared.problem.Cond.TheVariants.{Lit, Compare}
use Rattle.tp_spec.specs.declared.problem.Effect.{Effect}
use Rattle.tp_spec.specs.declared.problem.Effect.TheVariants.{Add, Delete, Change}
use Rattle.tp_spec.specs.WellFormed.{depth}

-- whether the expressions of a condition are at most 32 operations deep, as in each well-formed
-- problem
abbrev pub is_shallow : Cond → Bool
is_shallow (Lit fact positive) = true
is_shallow (Compare op left right) = nat_le (depth left) 32 && nat_le (depth right) 32

-- whether the expression of an effect is
abbrev pub is_shallow_effect : Effect → Bool
is_shallow_effect (Add f) = true
is_shallow_effect (Delete f) = true
is_shallow_effect (Change how x e) = nat_le (depth e) 32

-- a value, where there is one, is from -b to b
abbrev pub IsBounded : ℕ → Option ℤ → Type 0
IsBounded b None = Unit {0}
IsBounded b (Some z) = (neg_ℤ (pos b) ≤ℤ z) × (z ≤ℤ pos b)

-- each value of a list is
abbrev pub AreBounded : ℕ → List (Option ℤ) → Type 0
AreBounded b values = (x : ℕ) → IsBounded b (get_or values x None)

-- what an action of a well-formed problem asks and does: shallow expressions, and few effects
pub record IsExact (a : Action) : Type 0 where
  pub start_conds : IsTrue (list_all is_shallow a.start_conds)
  pub end_conds : IsTrue (list_all is_shallow a.end_conds)
  pub start_effects : IsTrue (list_all is_shallow_effect a.start_effects)
  pub end_effects : IsTrue (list_all is_shallow_effect a.end_effects)
  pub start_few : length a.start_effects ≤ 4096
  pub end_few : length a.end_effects ≤ 4096
