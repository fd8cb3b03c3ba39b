-- Ground problems, and which of them are well formed: those that have a canonical ground text.
use Rattle.std.specs.Prelude.{◌≡◌, ℕ, ℤ, pos, negsuc, int_le, ◌+◌, ◌-◌, ◌^◌, Bool, true, false, not, ◌&&◌, ◌||◌, ◌==◌, nat_le, nat_lt, max, List, [], ◌∷◌, length, Option, Some, None, IsTrue, bytes_eq, if◌then◌else◌}
use Rattle.std.specs.List.{list_any, list_all}
use Rattle.std.specs.Ordering.{is_lt, nat_cmp}
use Rattle.std.specs.Cmp.Lexicographic.{slice_cmp}
use Rattle.tp_spec.specs.Lists.{is_empty, each_pair, each_next}
use Rattle.tp_spec.specs.declared.expr.Expr.{Expr, fold-Expr}
use Rattle.tp_spec.specs.declared.expr.Expr.TheOpen.{Expr-F}
use Rattle.tp_spec.specs.declared.list.Name.{Name}
use Rattle.tp_spec.specs.declared.problem.Action.{Action}
use Rattle.tp_spec.specs.declared.problem.Cond.{Cond}
use Rattle.tp_spec.specs.declared.problem.Cond.TheVariants.{Lit, Compare}
use Rattle.tp_spec.specs.declared.problem.Effect.{Effect}
use Rattle.tp_spec.specs.declared.problem.Effect.TheVariants.{Add, Delete, Change}
use Rattle.tp_spec.specs.declared.problem.How.{How}
use Rattle.tp_spec.specs.declared.problem.How.TheVariants.{Increase, Decrease, Assign}
use Rattle.tp_spec.specs.declared.problem.Kind.{Kind}
use Rattle.tp_spec.specs.declared.problem.Kind.TheVariants.{Instant, Durative}
use Rattle.tp_spec.specs.declared.problem.TimedItem.{TimedItem}

-- what contracts see of a problem: its fields
pub record Ground : Type 0 where
  pub scale : ℕ
  pub facts : List Name
  pub fluents : List Name
  pub actions : List Action
  pub timed : List TimedItem
  pub init : List ℕ
  pub values : List (Option ℤ)
  pub goal : List Cond

-- the order of names, by their bytes
abbrev pub name_before : List ℕ → List ℕ → Bool
name_before a b = is_lt (slice_cmp nat_cmp a b)

-- printable ASCII but for upper-case letters, parentheses and the semicolon
abbrev pub is_name_byte : ℕ → Bool
is_name_byte b =
    nat_le 33 b && nat_le b 126 && not (nat_le 65 b && nat_le b 90)
    && not (b == 40 || b == 41 || b == 59)

-- words with one space between them; behind a space, or at the start, a word has to come
abbrev pub are_words : Bool → List ℕ → Bool
are_words wanted [] = not wanted
are_words wanted (b ∷ rest) =
    if b == 32 then not wanted && are_words true rest else is_name_byte b && are_words false rest

abbrev pub is_name : List ℕ → Bool
is_name text = are_words true text

abbrev pub depth_at : Expr-F ℕ → ℕ
depth_at (Expr-F.Number n) = 0
depth_at (Expr-F.Fluent x) = 0
depth_at (Expr-F.Sum a b) = 1 + max a b
depth_at (Expr-F.Difference a b) = 1 + max a b

-- how many operations deep an expression is
abbrev pub depth : Expr → ℕ
depth e = fold-Expr ℕ depth_at e

-- a number of 64 bits with a sign
abbrev pub is_i64 : ℤ → Bool
is_i64 z = int_le (negsuc (2 ^ 63 - 1)) z && int_le z (pos (2 ^ 63 - 1))

-- the value of a fluent at the start: a number of 64 bits with a sign, or none
abbrev pub is_value : Option ℤ → Bool
is_value None = true
is_value (Some z) = is_i64 z

abbrev pub is_expr_at : ℕ → Expr-F Bool → Bool
is_expr_at n (Expr-F.Number z) = is_i64 z
is_expr_at n (Expr-F.Fluent x) = nat_lt x n
is_expr_at n (Expr-F.Sum a b) = a && b
is_expr_at n (Expr-F.Difference a b) = a && b

-- an expression over the first n fluents and numbers of 64 bits, at most 32 operations deep
abbrev pub is_expr : ℕ → Expr → Bool
is_expr n e = fold-Expr Bool (is_expr_at n) e && nat_le (depth e) 32

-- conditions and effects over the first f facts and n fluents
abbrev pub is_cond : ℕ → ℕ → Cond → Bool
is_cond f n (Lit fact positive) = nat_lt fact f
is_cond f n (Compare op left right) = is_expr n left && is_expr n right

abbrev pub is_effect : ℕ → ℕ → Effect → Bool
is_effect f n (Add fact) = nat_lt fact f
is_effect f n (Delete fact) = nat_lt fact f
is_effect f n (Change how fluent e) = nat_lt fluent n && is_expr n e

abbrev pub is_relative : How → Bool
is_relative Increase = true
is_relative Decrease = true
is_relative Assign = false

-- two effects that write one fluent, and not both by increase or decrease
abbrev pub overwrite : Effect → Effect → Bool
overwrite (Change how x e) (Change how' y e') = x == y && not (is_relative how && is_relative how')
overwrite (Change how x e) (Add fact) = false
overwrite (Change how x e) (Delete fact) = false
overwrite (Add fact) other = false
overwrite (Delete fact) other = false

-- what one start or one end may do
abbrev pub are_effects : ℕ → ℕ → List Effect → Bool
are_effects f n effects = nat_le (length effects) 4096 && list_all (is_effect f n) effects
    && each_pair (λ a b. not (overwrite a b)) effects

-- the last tick that a length or a plan may reach
abbrev pub far : ℕ
far = 2 ^ 40

-- an instant action has a start alone
abbrev pub is_kind : Kind → Action → Bool
is_kind Instant a = is_empty a.all_conds && is_empty a.end_conds && is_empty a.end_effects
is_kind (Durative least most) a = nat_le 1 least && nat_le least most && nat_le most far

abbrev pub is_action : ℕ → ℕ → Action → Bool
is_action f n a = is_name a.name && is_kind a.kind a
    && list_all (is_cond f n) a.start_conds && list_all (is_cond f n) a.all_conds
    && list_all (is_cond f n) a.end_conds
    && are_effects f n a.start_effects && are_effects f n a.end_effects

-- at least one literal, the facts of each kind rising, none both true and false
abbrev pub is_timed : ℕ → TimedItem → Bool
is_timed f t = not (is_empty t.adds && is_empty t.deletes)
    && list_all (λ x. nat_lt x f) t.adds && list_all (λ x. nat_lt x f) t.deletes
    && each_next nat_lt t.adds && each_next nat_lt t.deletes
    && list_all (λ x. not (list_any (λ y. x == y) t.deletes)) t.adds

-- The rules of the canonical ground text, one by one, the ranges of its numbers among them: what
-- each `Problem` keeps. PDDL 2.1, section 2, grounded; the limits, the order of names and the
-- separation into ticks are this project's own.
pub record IsWellFormed (p : Ground) : Type 0 where
  pub scaled : IsTrue (p.scale == 1 || p.scale == 10 || p.scale == 100 || p.scale == 1000)
  pub fact_names : IsTrue (nat_le (length p.facts) 4096 && list_all is_name p.facts
      && each_next name_before p.facts)
  pub fluent_names : IsTrue (nat_le (length p.fluents) 256 && list_all is_name p.fluents
      && each_next name_before p.fluents)
  pub acting : IsTrue (nat_le (length p.actions) 4096
      && list_all (is_action (length p.facts) (length p.fluents)) p.actions)
  pub told_apart : IsTrue (each_pair (λ a b. not (bytes_eq a.name b.name)) p.actions)
  pub timing : IsTrue (nat_le (length p.timed) 256 && list_all (is_timed (length p.facts)) p.timed
      && each_next (λ s t. nat_lt s.tick t.tick) p.timed)
  pub ticks_fit : IsTrue (list_all (λ t. nat_lt t.tick (2 ^ 64)) p.timed)
  pub starting : IsTrue (list_all (λ f. nat_lt f (length p.facts)) p.init
      && each_next nat_lt p.init)
  pub valued : length p.values ≡ length p.fluents
  pub values_fit : IsTrue (list_all is_value p.values)
  pub aiming : IsTrue (nat_lt (length p.goal) (2 ^ 31)
      && list_all (is_cond (length p.facts) (length p.fluents)) p.goal)
