-- Items of one tick, and what they make of a fluent.
use Rattle.std.specs.Prelude.{◌≡◌, ℕ, ◌<◌, ℤ, ◌+ℤ◌, ◌-ℤ◌, Bool, true, ◌&&◌, ◌==◌, nat_lt, List, [], ◌∷◌, length, Option, None, slice_get, get_or}
use Rattle.std.specs.List.{list_all}
use Rattle.tp_spec.specs.Lists.{part_of}
use Rattle.tp_spec.specs.declared.plan.Item.{Item}
use Rattle.tp_spec.specs.declared.plan.Item.TheVariants.{TimedAt, End, Start}
use Rattle.tp_spec.specs.declared.problem.Effect.{Effect}
use Rattle.tp_spec.specs.declared.problem.How.{How}
use Rattle.tp_spec.specs.declared.problem.How.TheVariants.{Increase, Decrease, Assign}
use Rattle.tp_spec.specs.declared.problem.Problem.{Problem}
use Rattle.tp_spec.specs.States.{State, of_both}
use Rattle.tp_spec.specs.Items.{kind_index, number, change, changed, effects_of, fits, has_after}

-- whether an item is one of the problem's
abbrev pub is_item_of : Problem → Item → Bool
is_item_of p (TimedAt k) = nat_lt k (length p.timed)
is_item_of p (End a) = nat_lt a (length p.actions)
is_item_of p (Start a) = nat_lt a (length p.actions)

abbrev pub same_item : Item → Item → Bool
same_item i j = kind_index i == kind_index j && number i == number j

-- what the end or the start of an action does; a timed item changes no fluent
abbrev pub action_effects : Problem → Item → List Effect
action_effects p (TimedAt k) = []
action_effects p (End a) = part_of (slice_get p.actions a) (λ x. x.end_effects)
action_effects p (Start a) = part_of (slice_get p.actions a) (λ x. x.start_effects)

-- what effects make of a value of fluent x, the last one first
abbrev pub changed_by : State → ℕ → List Effect → Option ℤ → Option ℤ
changed_by s x [] v = v
changed_by s x (e ∷ es) v = change s x e (changed_by s x es v)

-- the new value of a fluent by its old one and the value of the right side
abbrev pub new_value : How → Option ℤ → Option ℤ → Option ℤ
new_value Increase old operand = of_both (λ m n. m +ℤ n) old operand
new_value Decrease old operand = of_both (λ m n. m -ℤ n) old operand
new_value Assign old operand = operand

-- the values of all fluents after items that leave a state
pub record AreValuesAfter (p : Problem) (s : State) (items : List Item) (values : List (Option ℤ)) :
    Type 0 where
  pub exists : has_after p s items ≡ true
  pub fit : list_all fits values ≡ true
  pub count : length values ≡ length p.fluents
  pub each : (x : ℕ) → x < length values → get_or values x None ≡ changed s x (effects_of p items)
