-- What the rules of a ground problem ask of a domain and a problem, where no count is past its
-- limit.
use Rattle.std.specs.Prelude.{◌≡◌, ℕ, ◌+◌, ◌^◌, max, Bool, true, false, not, ◌&&◌, ◌||◌, ◌==◌, nat_le, nat_lt, List, length, Option, Some, None, IsTrue}
use Rattle.std.specs.List.{list_all}
use Rattle.std.specs.Str.{bytes_eq}
use Rattle.tp_spec.specs.Lists.{is_empty, each_pair}
use Rattle.tp_spec.specs.WellFormed.{IsWellFormed, is_name, is_i64}
use Rattle.pddl_meaning.specs.declared.values.Value.{Value, fold-Value}
use Rattle.pddl_meaning.specs.declared.values.Value.TheOpen.{Value-F}
use Rattle.pddl_meaning.specs.declared.conditions.Condition.{Condition}
use Rattle.pddl_meaning.specs.declared.conditions.Condition.TheVariants.{Lit, Same, Compare}
use Rattle.pddl_meaning.specs.declared.changes.Change.{Change}
use Rattle.pddl_meaning.specs.declared.changes.Change.TheVariants.{Lit as Make, Update}
use Rattle.pddl_domain.specs.declared.domain.Bound.{Bound}
use Rattle.pddl_domain.specs.declared.domain.Schema.{Schema}
use Rattle.grounder.specs.Sources.{Source}
use Rattle.grounder.specs.Naming.{fact_names, fluent_names}
use Rattle.grounder.specs.Grounded.{ground_actions, is_dated, problem_of, excess}

abbrev pub depth_at : Value-F ℕ → ℕ
depth_at (Value-F.Number n) = 0
depth_at (Value-F.Call a) = 0
depth_at (Value-F.Sum a b) = 1 + max a b
depth_at (Value-F.Difference a b) = 1 + max a b

abbrev pub is_small_at : Value-F Bool → Bool
is_small_at (Value-F.Number z) = is_i64 z
is_small_at (Value-F.Call a) = true
is_small_at (Value-F.Sum a b) = a && b
is_small_at (Value-F.Difference a b) = a && b

-- an expression of numbers of 64 bits, at most 32 operations deep
abbrev pub value_fits : Value → Bool
value_fits v = fold-Value Bool is_small_at v && nat_le (fold-Value ℕ depth_at v) 32

abbrev pub cond_fits : Condition → Bool
cond_fits (Lit positive atom) = true
cond_fits (Same positive left right) = true
cond_fits (Compare op left right) = value_fits left && value_fits right

abbrev pub change_fits : Change → Bool
change_fits (Make positive atom) = true
change_fits (Update how target value) = value_fits value

-- the effects of one start or one end
abbrev pub changes_fit : List Change → Bool
changes_fit changes = nat_le (length changes) 4096 && list_all change_fits changes

-- an instant action has a start alone
abbrev pub kind_fits : Option (List Bound) → Schema → Bool
kind_fits None a = is_empty a.all_conds && is_empty a.end_conds && is_empty a.end_effects
kind_fits (Some bounds) a = true

abbrev pub conds_fit : Schema → Bool
conds_fit a =
    list_all cond_fits a.start_conds && list_all cond_fits a.all_conds
    && list_all cond_fits a.end_conds

abbrev pub schema_fits : Schema → Bool
schema_fits a =
    kind_fits a.bounds a && conds_fit a && changes_fit a.start_effects
    && changes_fit a.end_effects

-- A domain and a problem that fit: their names have the form of names, ground actions are told
-- apart by them, numbers have 64 bits, expressions are not too deep and lists not too long, and no
-- timed literal says the contrary of another one of its tick.
pub record Fits (scale : ℕ) (s : Source) : Type 0 where
  pub scaled : IsTrue (scale == 1 || scale == 10 || scale == 100 || scale == 1000)
  pub facts_named : IsTrue (list_all is_name (fact_names s))
  pub fluents_named : IsTrue (list_all is_name (fluent_names s))
  pub actions_named : IsTrue (list_all (λ a. is_name a.name) (ground_actions s))
  pub told_apart : IsTrue (each_pair (λ a b. not (bytes_eq a.name b.name)) (ground_actions s))
  pub schemas_fit : IsTrue (list_all schema_fits s.domain.actions)
  pub values_fit : IsTrue (list_all (λ g. is_i64 g.value) s.task.values)
  pub ticks_fit : IsTrue (list_all (λ d. nat_lt d.tick (2 ^ 64)) s.task.timed)
  pub no_clash : (tick : ℕ) (name : List ℕ) → IsTrue (is_dated s tick true name)
      → is_dated s tick false name ≡ false
  pub goal_short : IsTrue (nat_lt (length s.task.goal) (2 ^ 31))
  pub goal_fits : IsTrue (list_all cond_fits s.task.goal)

-- where a domain and a problem fit and no count is past its limit, they have a ground problem
abbrev pub GroundWhereFit : Type 0
GroundWhereFit =
    (scale : ℕ) (s : Source) → Fits scale s → excess s ≡ None → IsWellFormed (problem_of scale s)
