-- Items, their order, what they ask, and what a set of them does to a state.
use Rattle.std.specs.Prelude.{ℕ, Bool, true, false, not, ◌&&◌, ◌||◌, ◌==◌, nat_lt, List, [], ◌∷◌, ◌++◌, length, map, Option, Some, None, ℤ, ◌+ℤ◌, ◌-ℤ◌, if◌then◌else◌, slice_get, is_some}
use Rattle.std.specs.List.{list_any, list_all, flat_map, range_with_len}
use Rattle.tp_spec.specs.Lists.{some_and, part_of}
use Rattle.tp_spec.specs.declared.plan.Item.{Item}
use Rattle.tp_spec.specs.declared.plan.Item.TheVariants.{TimedAt, End, Start}
use Rattle.tp_spec.specs.declared.problem.Cond.{Cond}
use Rattle.tp_spec.specs.declared.problem.Effect.{Effect}
use Rattle.tp_spec.specs.declared.problem.Effect.TheVariants.{Add, Delete, Change}
use Rattle.tp_spec.specs.declared.problem.How.TheVariants.{Increase, Decrease, Assign}
use Rattle.tp_spec.specs.declared.problem.Kind.{Kind}
use Rattle.tp_spec.specs.declared.problem.Kind.TheVariants.{Instant, Durative}
use Rattle.tp_spec.specs.declared.problem.Problem.{Problem}
use Rattle.tp_spec.specs.declared.problem.TimedItem.{TimedItem}
use Rattle.tp_spec.specs.States.{State, value, holds, of_both}
use Rattle.tp_spec.specs.WellFormed.{is_value}

-- The items of a problem: its timed items, and the end and the start of each action. (The end of an
-- instant action never stands anywhere.)
abbrev pub all_items : Problem → List Item
all_items p =
    map TimedAt (range_with_len 0 (length p.timed))
    ++ map End (range_with_len 0 (length p.actions))
    ++ map Start (range_with_len 0 (length p.actions))

abbrev pub kind_index : Item → ℕ
kind_index (TimedAt k) = 0
kind_index (End a) = 1
kind_index (Start a) = 2

abbrev pub number : Item → ℕ
number (TimedAt k) = k
number (End a) = a
number (Start a) = a

-- The item order: timed items first, then ends, then starts, each kind by its number.
-- This project's own; the list `all_items` is in it.
abbrev pub item_before : Item → Item → Bool
item_before i j =
    nat_lt (kind_index i) (kind_index j)
    || (kind_index i == kind_index j && nat_lt (number i) (number j))

abbrev pub is_durative_kind : Kind → Bool
is_durative_kind Instant = false
is_durative_kind (Durative least most) = true

abbrev pub is_durative : Problem → ℕ → Bool
is_durative p a = some_and (slice_get p.actions a) (λ x. is_durative_kind x.kind)

abbrev pub timed_effects : TimedItem → List Effect
timed_effects t = map Add t.adds ++ map Delete t.deletes

-- what an item does
abbrev pub effects : Problem → Item → List Effect
effects p (TimedAt k) = part_of (slice_get p.timed k) timed_effects
effects p (End a) = part_of (slice_get p.actions a) (λ x. x.end_effects)
effects p (Start a) = part_of (slice_get p.actions a) (λ x. x.start_effects)

-- what is written before an item
abbrev pub conditions : Problem → Item → List Cond
conditions p (TimedAt k) = []
conditions p (End a) = part_of (slice_get p.actions a) (λ x. x.end_conds)
conditions p (Start a) = part_of (slice_get p.actions a) (λ x. x.start_conds)

-- what is asked while an action runs
abbrev pub invariants : Problem → ℕ → List Cond
invariants p a = part_of (slice_get p.actions a) (λ x. x.all_conds)

abbrev pub is_defined : State → Effect → Bool
is_defined s (Add f) = true
is_defined s (Delete f) = true
is_defined s (Change Increase x e) = is_some (s.fluent x) && is_some (value s e)
is_defined s (Change Decrease x e) = is_some (s.fluent x) && is_some (value s e)
is_defined s (Change Assign x e) = is_some (value s e)

-- An item's own conditions: the written ones hold, each right side that it uses is defined, and
-- each fluent that it increases or decreases is. PDDL 2.1, section 6 (applicability of a snap
-- action). That numbers are defined is asked beside what is written.
abbrev pub own : Problem → State → Item → Bool
own p s i = list_all (holds s) (conditions p i) && list_all (is_defined s) (effects p i)

abbrev pub effects_of : Problem → List Item → List Effect
effects_of p items = flat_map (effects p) items

abbrev pub adds : ℕ → Effect → Bool
adds f (Add g) = f == g
adds f (Delete g) = false
adds f (Change how x e) = false

abbrev pub deletes : ℕ → Effect → Bool
deletes f (Add g) = false
deletes f (Delete g) = f == g
deletes f (Change how x e) = false

-- one effect's part in the new value of fluent x, the right side taken in s
abbrev pub change : State → ℕ → Effect → Option ℤ → Option ℤ
change s x (Add g) v = v
change s x (Delete g) v = v
change s x (Change Increase y e) v = if x == y then of_both (λ m n. m +ℤ n) v (value s e) else v
change s x (Change Decrease y e) v = if x == y then of_both (λ m n. m -ℤ n) v (value s e) else v
change s x (Change Assign y e) v = if x == y then value s e else v

-- the old value with all increases and decreases, or the assigned value
abbrev pub changed : State → ℕ → List Effect → Option ℤ
changed s x [] = s.fluent x
changed s x (e ∷ es) = change s x e (changed s x es)

-- facts: (S without what is deleted) with what is added
abbrev pub next : State → List Effect → State
next s es = record {
  fact = λ f. (s.fact f && not (list_any (deletes f) es)) || list_any (adds f) es;
  fluent = λ x. changed s x es;
}

-- whether a new value is within 64 bits; what is not defined stays so
abbrev pub fits : Option ℤ → Bool
fits value = is_value value

-- whether the new value of the fluent that an effect changes is within 64 bits
abbrev pub fits_new : State → Effect → Bool
fits_new t (Add f) = true
fits_new t (Delete f) = true
fits_new t (Change how x e) = fits (t.fluent x)

-- whether there is a state after a set of items
abbrev pub has_after : Problem → State → List Item → Bool
has_after p s items = list_all (fits_new (next s (effects_of p items))) (effects_of p items)

-- The state after a set of items, none where a new value leaves 64 bits. The set is a list in any
-- order: items that don't interfere commute. PDDL 2.1, section 6 (happenings). The code changes bit
-- rows and an array.
abbrev pub after : Problem → State → List Item → Option State
after p s items = if has_after p s items then Some (next s (effects_of p items)) else None
