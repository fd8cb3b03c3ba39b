-- What stands at which ticks, as one list in order.
use Rattle.std.specs.Prelude.{◌≡◌, ℕ, ◌+◌, ◌≤◌, Bool, true, false, not, ◌&&◌, ◌||◌, ◌==◌, nat_le, nat_lt, List, [], ◌∷◌, length, map, IsTrue, slice_get, if◌then◌else◌}
use Rattle.std.specs.List.{list_any, list_all, filter}
use Rattle.tp_spec.specs.declared.plan.Item.{Item}
use Rattle.tp_spec.specs.declared.plan.Item.TheVariants.{TimedAt, End, Start}
use Rattle.tp_spec.specs.declared.plan.Timed.{Timed}
use Rattle.tp_spec.specs.declared.problem.Problem.{Problem}
use Rattle.tp_spec.specs.Lists.{each_pair, some_and}
use Rattle.tp_spec.specs.Items.{item_before, is_durative}
use Rattle.tp_spec.specs.Courses.{happening}
use Rattle.world_state.specs.Happenings.{same_item}
use Rattle.plan_validator.specs.declared.standings.Place.{Place}
use Rattle.plan_validator.specs.declared.standings.Place.TheVariants.{Fixed, Ending, Starting}
use Rattle.plan_validator.specs.declared.standings.Standing.{Standing}

abbrev pub item_of : Place → Item
item_of (Fixed k) = TimedAt k
item_of (Ending a) = End a
item_of (Starting a) = Start a

-- earlier, or at one tick and first in the item order
abbrev pub standing_before : Standing → Standing → Bool
standing_before x y =
    nat_lt x.tick y.tick || (x.tick == y.tick && item_before (item_of x.place) (item_of y.place))

-- whether one of some standings is of this item and this tick
abbrev pub has_standing : List Standing → ℕ → Item → Bool
has_standing xs t i = list_any (λ x. x.tick == t && same_item (item_of x.place) i) xs

-- whether an item is one of the first n timed items and stands at a tick
abbrev pub stands_timed : Problem → ℕ → ℕ → Item → Bool
stands_timed p n t (TimedAt k) = nat_lt k n && some_and (slice_get p.timed k) (λ x. x.tick == t)
stands_timed p n t (End a) = false
stands_timed p n t (Start a) = false

-- whether an item is an end or a start of one of these acts at a tick
abbrev pub stands_by : Problem → List Timed → ℕ → Item → Bool
stands_by p acts t (TimedAt k) = false
stands_by p acts t (End a) =
    is_durative p a && list_any (λ x. x.action == a && x.start + x.length == t) acts
stands_by p acts t (Start a) = list_any (λ x. x.action == a && x.start == t) acts

-- standings in order, none twice, of the same items and ticks
pub record AreInOrder (old new : List Standing) : Type 0 where
  pub rising : IsTrue (each_pair standing_before new)
  pub has : (t : ℕ) (i : Item) → has_standing new t i ≡ has_standing old t i

-- the items of those at a tick
abbrev pub items_at : ℕ → List Standing → List Item
items_at t xs = map (λ x. item_of x.place) (filter (λ x. x.tick == t) xs)

-- all that stands from a tick on
pub record AreStandings (p : Problem) (acts : List Timed) (t : ℕ) (xs : List Standing)
    : Type 0 where
  pub rising : IsTrue (each_pair standing_before xs)
  pub late : IsTrue (list_all (λ x. nat_le t x.tick) xs)
  pub are : (u : ℕ) → t ≤ u → items_at u xs ≡ happening p acts u

-- the items in front that stand at a tick, and what is behind them
abbrev pub front_at : ℕ → List Standing → List Item
front_at t [] = []
front_at t (x ∷ xs) = if x.tick == t then item_of x.place ∷ front_at t xs else []

abbrev pub behind_at : ℕ → List Standing → List Standing
behind_at t [] = []
behind_at t (x ∷ xs) = if x.tick == t then behind_at t xs else x ∷ xs
