-- Which substitutions give a ground action.
use Rattle.std.specs.Prelude.{ℕ, Bool, true, false, not, ◌&&◌, ◌||◌, List, ◌++◌, map}
use Rattle.std.specs.List.{list_all, filter}
use Rattle.std.specs.Str.{bytes_eq}
use Rattle.tp_spec.specs.Lists.{each_pair}
use Rattle.tp_spec.specs.WellFormed.{is_relative}
use Rattle.pddl_meaning.specs.declared.conditions.Condition.{Condition}
use Rattle.pddl_meaning.specs.declared.conditions.Condition.TheVariants.{Lit, Same, Compare}
use Rattle.pddl_meaning.specs.declared.changes.Change.{Change}
use Rattle.pddl_meaning.specs.declared.changes.Change.TheVariants.{Lit as Make, Update}
use Rattle.pddl_domain.specs.declared.domain.Schema.{Schema}
use Rattle.grounder.specs.Sources.{Source, call_name}
use Rattle.grounder.specs.Objects.{choices, substitutions}
use Rattle.grounder.specs.Rigid.{is_static, holds, is_known}
use Rattle.grounder.specs.Lengths.{has_length}

abbrev pub is_known_in : Source → List ℕ → Condition → Bool
is_known_in s objects (Lit positive atom) = true
is_known_in s objects (Same positive left right) = true
is_known_in s objects (Compare op left right) = is_known s objects left && is_known s objects right

-- a condition stands in no way: it holds where it is static, and what it reads is known
abbrev pub allows : Source → List ℕ → Condition → Bool
allows s objects c = (not (is_static s c) || holds s objects c) && is_known_in s objects c

-- what an effect reads is known
abbrev pub is_known_by : Source → List ℕ → Change → Bool
is_known_by s objects (Make positive atom) = true
is_known_by s objects (Update how target value) = is_known s objects value

-- two effects that write one fluent, and not both by increase or decrease
abbrev pub rewrites : Source → List ℕ → Change → Change → Bool
rewrites s objects (Make positive atom) other = false
rewrites s objects (Update how target value) (Make positive atom) = false
rewrites s objects (Update how target value) (Update how' target' value') =
    bytes_eq (call_name s objects target) (call_name s objects target')
    && not (is_relative how && is_relative how')

-- what is read is known, and no fluent is written twice unless by increases and decreases alone
abbrev pub are_sound : Source → List ℕ → List Change → Bool
are_sound s objects changes =
    list_all (is_known_by s objects) changes
    && each_pair (λ c d. not (rewrites s objects c d)) changes

abbrev pub conditions_allow : Source → Schema → List ℕ → Bool
conditions_allow s a objects =
    list_all (allows s objects) a.start_conds
    && list_all (allows s objects) a.all_conds
    && list_all (allows s objects) a.end_conds

-- A substitution gives a ground action where its static conditions hold, of every time label, each
-- static function term that it uses has a value at the start, its range of lengths is not empty,
-- and no start or end writes a fluent twice.
abbrev pub is_kept : Source → Schema → List ℕ → Bool
is_kept s a objects =
    conditions_allow s a objects
    && has_length s objects a.bounds
    && are_sound s objects a.start_effects
    && are_sound s objects a.end_effects

-- The substitutions of an action that give a ground action, in order: all typed ones, filtered.
abbrev pub kept : Source → Schema → List (List ℕ)
kept s a = filter (is_kept s a) (substitutions s a.sorts)

-- those that begin with these objects and go on with a member of each range
abbrev pub kept_behind : Source → Schema → List ℕ → List (List ℕ) → List (List ℕ)
kept_behind s a objects ranges =
    filter (is_kept s a) (map (λ rest. objects ++ rest) (choices ranges))
