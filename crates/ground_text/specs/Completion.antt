-- How the lines that a text begins with are completed to those of a problem.
use Rattle.std.specs.Prelude.{ℕ, zero, suc, ◌+◌, ◌-◌, ℤ, Bool, true, false, ◌&&◌, ◌==◌, List, [], ◌∷◌, ◌++◌, length, map, Option, None, if◌then◌else◌}
use Rattle.std.specs.List.{list_all, prefix_len}
use Rattle.tp_spec.specs.Lists.{is_empty}
use Rattle.tp_spec.specs.WellFormed.{Ground, IsWellFormed}
use Rattle.tp_spec.specs.declared.list.Name.{Name}
use Rattle.tp_spec.specs.declared.problem.Action.{Action}
use Rattle.tp_spec.specs.declared.problem.Kind.{Kind}
use Rattle.tp_spec.specs.declared.problem.Kind.TheVariants.{Instant, Durative}
use Rattle.tp_spec.specs.declared.problem.TimedItem.{TimedItem}
use Rattle.ground_text.specs.Texts.{problem_text}
use Rattle.line_text.specs.Lines.{Begins}

-- how many bytes the first n lines have, and whether there are as many
abbrev pub lines_len : ℕ → List ℕ → ℕ
lines_len n [] = 0
lines_len n (c ∷ text) =
    if n == 0 then 0 else if c == 10 then 1 + lines_len (n - 1) text else 1 + lines_len n text

abbrev pub lines_stand : ℕ → List ℕ → Bool
lines_stand n [] = n == 0
lines_stand n (c ∷ text) =
    if n == 0 then true else if c == 10 then lines_stand (n - 1) text else lines_stand n text

abbrev pub scale_or_one : ℕ → ℕ
scale_or_one scale = if scale == 0 then 1 else scale

-- where a name is missing, the one before it with `!` behind it
abbrev pub name_or_next : List ℕ → List ℕ → List ℕ
name_or_next before [] = before ++ 33 ∷ []
name_or_next before (c ∷ name) = c ∷ name

abbrev pub filled : List ℕ → List Name → List Name
filled before [] = []
filled before (name ∷ names) = name_or_next before name ∷ filled (name_or_next before name) names

-- a name of n bytes `!`
abbrev pub bang_name : ℕ → List ℕ
bang_name zero = []
bang_name (suc n) = 33 ∷ bang_name n

-- how many bytes a name of `!` alone has, and 0 for each other name
abbrev pub bangs : List ℕ → ℕ
bangs name = if list_all (λ c. c == 33) name then length name else 0

-- the first place without a mark, or the one behind them all
abbrev pub first_free : List Bool → ℕ
first_free marks = prefix_len (λ mark. mark) marks

-- marks with one more at a place
abbrev pub marked : ℕ → List Bool → List Bool
marked zero [] = true ∷ []
marked zero (mark ∷ marks) = true ∷ marks
marked (suc place) [] = false ∷ marked place []
marked (suc place) (mark ∷ marks) = mark ∷ marked place marks

-- marks of the names of `!` alone, of n + 1 bytes at the place n, with that of one name more
abbrev pub with_name : List ℕ → List Bool → List Bool
with_name name marks = if bangs name == 0 then marks else marked (bangs name - 1) marks

-- where the name of an action is missing, the name of `!` alone that belongs to the place
abbrev pub name_or_bangs : ℕ → List ℕ → List ℕ
name_or_bangs place [] = bang_name (suc place)
name_or_bangs place (c ∷ name) = c ∷ name

-- where nothing stands behind the name of an action, it is an instant one
abbrev pub kind_or_instant : Kind → Kind
kind_or_instant Instant = Instant
kind_or_instant (Durative least most) = if most == 0 then Instant else Durative least most

abbrev pub filled_action : ℕ → Action → Action
filled_action place a = record {
  name = name_or_bangs place a.name;
  kind = kind_or_instant a.kind;
  start_conds = a.start_conds;
  all_conds = a.all_conds;
  end_conds = a.end_conds;
  start_effects = a.start_effects;
  end_effects = a.end_effects;
}

-- actions with the missing ones filled in: each gets a name of as few `!` as no action before it
-- has, at least one; the marks are of the actions before these
abbrev pub filled_actions : List Bool → List Action → List Action
filled_actions marks [] = []
filled_actions marks (a ∷ actions) =
    filled_action (first_free marks) a
    ∷ filled_actions (with_name (name_or_bangs (first_free marks) a.name) marks) actions

-- where a timed item is missing, the first fact is added at the first tick that may come
abbrev pub filled_item : ℕ → TimedItem → TimedItem
filled_item next t =
    if is_empty t.adds
    && is_empty t.deletes then record { tick = next; adds = 0 ∷ []; deletes = [] } else t

-- timed items with the missing ones filled in; the first may come at the tick next
abbrev pub filled_timed : ℕ → List TimedItem → List TimedItem
filled_timed next [] = []
filled_timed next (t ∷ items) =
    filled_item next t ∷ filled_timed (suc (filled_item next t).tick) items

-- where the values are missing, none for each fluent
abbrev pub filled_values : List Name → List (Option ℤ) → List (Option ℤ)
filled_values fluents [] = map (λ name. None) fluents
filled_values fluents (value ∷ values) = value ∷ values

-- what was read of the first lines of a text, with what is missing filled in
abbrev pub completed : Ground → Ground
completed p = record {
  scale = scale_or_one p.scale;
  facts = filled [] p.facts;
  fluents = filled [] p.fluents;
  actions = filled_actions [] p.actions;
  timed = filled_timed 0 p.timed;
  init = p.init;
  values = filled_values p.fluents p.values;
  goal = p.goal;
}

-- No ground text begins with the first n lines.
abbrev pub NoneBegins : ℕ → List ℕ → Type 0
NoneBegins n text = (p : Ground) → IsWellFormed p → Begins n (problem_text p) text → ⊥

-- a problem whose text begins with the first n lines
abbrev pub SomeBegins : ℕ → List ℕ → Ground → Type 0
SomeBegins n text q = IsWellFormed q × Begins n (problem_text q) text
