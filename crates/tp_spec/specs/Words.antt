-- Words: orders of items without times; how a plan is spelled, and which words are sound.
use Rattle.std.specs.Prelude.{ℕ, zero, suc, ◌+◌, ◌-◌, Bool, true, false, not, ◌&&◌, ◌||◌, ◌==◌, nat_lt, List, [], ◌∷◌, ◌++◌, length, map, Option, Some, None, IsTrue, if◌then◌else◌}
use Rattle.std.specs.List.{list_any, list_all, range_with_len}
use Rattle.tp_spec.specs.declared.plan.Item.{Item}
use Rattle.tp_spec.specs.declared.plan.Item.TheVariants.{TimedAt, End, Start}
use Rattle.tp_spec.specs.declared.plan.Mark.{Mark}
use Rattle.tp_spec.specs.declared.plan.Plan.{Plan}
use Rattle.tp_spec.specs.declared.plan.Timed.{Timed}
use Rattle.tp_spec.specs.declared.problem.Problem.{Problem}
use Rattle.tp_spec.specs.Lists.{is_empty}
use Rattle.tp_spec.specs.States.{State, initial, holds}
use Rattle.tp_spec.specs.Items.{is_durative, invariants, item_before, own, next, effects_of, has_after}
use Rattle.tp_spec.specs.Interference.{interfere}
use Rattle.tp_spec.specs.Courses.{happening}

abbrev pub joining : Item → Mark
joining i = record { fresh = false; item = i }

-- the marks of one happening: the first is fresh
abbrev pub marked : List Item → List Mark
marked [] = []
marked (i ∷ rest) = record { fresh = true; item = i } ∷ map joining rest

-- the happenings before a tick, in order of time
abbrev pub spelled : Problem → List Timed → ℕ → List Mark
spelled p acts zero = []
spelled p acts (suc t) = spelled p acts t ++ marked (happening p acts t)

-- The word of a plan: its happenings up to the end. A fresh mark opens a group, the marks behind it
-- that are not fresh join it. The last group is open, all others are closed. This project's own; a
-- total order of simple plan steps as in PDDL 2.1, section 5, without the times.
abbrev pub spell : Problem → Plan → List Mark
spell p plan = spelled p plan.acts (suc plan.end)

abbrev pub is_start_of : ℕ → Item → Bool
is_start_of a (TimedAt k) = false
is_start_of a (End b) = false
is_start_of a (Start b) = a == b

abbrev pub is_end_of : ℕ → Item → Bool
is_end_of a (TimedAt k) = false
is_end_of a (End b) = a == b
is_end_of a (Start b) = false

-- How far a word was read: the state before its last group, that group, the number of its timed
-- items, and which actions run before the group.
pub record Progress : Type 0 where
  pub before : State
  pub group : List Item
  pub timed : ℕ
  pub running : ℕ → Bool

abbrev pub at_start : Problem → Progress
at_start p = record { before = initial p; group = []; timed = 0; running = λ a. false }

-- whether an action runs after the last group
abbrev pub runs_after : Problem → Progress → ℕ → Bool
runs_after p c a =
    (list_any (is_start_of a) c.group && is_durative p a)
    || (c.running a && not (list_any (is_end_of a) c.group))

-- the state after the last group, if there is one
abbrev pub state_past : Problem → Progress → State
state_past p c = next c.before (effects_of p c.group)

-- the last group closed
abbrev pub past_group : Problem → Progress → Progress
past_group p c =
    record { before = state_past p c; group = []; timed = c.timed; running = runs_after p c }

abbrev pub keeps_running : Problem → Progress → Bool
keeps_running p c =
    list_all (λ a. not (runs_after p c a) || list_all (holds (state_past p c)) (invariants p a))
    (range_with_len 0 (length p.actions))

-- whether the last group may be closed, if there is one: there is a state after it, and the
-- invariants of what runs after it hold there
abbrev pub closes : Problem → Progress → Bool
closes p c = is_empty c.group || (has_after p c.before c.group && keeps_running p c)

-- whether an item may come next by what came before: timed items in order without omission, an end
-- of what started in an earlier group and has not ended, a start of what does not run or ended
-- earlier in this group
abbrev pub in_turn : Problem → Progress → Item → Bool
in_turn p c (TimedAt k) = k == c.timed && nat_lt k (length p.timed)
in_turn p c (End a) = c.running a && not (list_any (is_end_of a) c.group)
in_turn p c (Start a) =
    nat_lt a (length p.actions) && (not (c.running a) || list_any (is_end_of a) c.group)

-- whether an item may join the last group: it is behind all items of the group in item order and
-- interferes with none
abbrev pub may_join : Problem → Progress → Item → Bool
may_join p c i =
    in_turn p c i && own p c.before i
    && list_all (λ j. item_before j i && not (interfere p j i)) c.group

abbrev pub timed_count : Item → ℕ → ℕ
timed_count (TimedAt k) n = n + 1
timed_count (End a) n = n
timed_count (Start a) n = n

abbrev pub with_item : Progress → Item → Progress
with_item c i =
    record {
      before = c.before;
      group = c.group ++ i
          ∷ [];
      timed = timed_count i c.timed;
      running = c.running;
    }

-- whether a mark may come next
abbrev pub may_follow : Problem → Progress → Mark → Bool
may_follow p c m =
    if m.fresh then closes p c && may_join p (past_group p c) m.item else not (is_empty c.group)
    && may_join p c m.item

abbrev pub read_mark : Problem → Progress → Mark → Progress
read_mark p c m = with_item (if m.fresh then past_group p c else c) m.item

abbrev pub read_on : Problem → Progress → List Mark → Progress
read_on p c [] = c
read_on p c (m ∷ w) = read_on p (read_mark p c m) w

-- how far the whole word was read
abbrev pub progress : Problem → List Mark → Progress
progress p w = read_on p (at_start p) w

abbrev pub Follow : Problem → Progress → List Mark → Type 0
Follow p c [] = Unit {0}
Follow p c (m ∷ w) = IsTrue (may_follow p c m) × Follow p (read_mark p c m) w

-- Each mark may follow those before it. The state after the last group and its invariants are
-- judged when it is closed, so two starts of one group may give each other's invariants. This
-- project's own.
pub record Sound (p : Problem) (w : List Mark) : Type 0 where
  pub follows : Follow p (at_start p) w

-- how many groups a word has
abbrev pub groups : List Mark → ℕ
groups [] = 0
groups (m ∷ w) = (if m.fresh then 1 else 0) + groups w

-- An act of a word: the group in which it starts, and the group in which it ends, or none while it
-- runs.
pub record Act : Type 0 where
  pub action : ℕ
  pub opens : ℕ
  pub closes : Option ℕ

-- the running act of an action ends in a group
abbrev pub ended : ℕ → ℕ → List Act → List Act
ended a g [] = []
ended a g (x ∷ xs) = elim x.closes [
  | Some h ↦ x ∷ ended a g xs
  | None ↦ if x.action == a then record x { closes = Some g } ∷ xs else x ∷ ended a g xs
]

-- an item of group g
abbrev pub with_act : Problem → ℕ → Item → List Act → List Act
with_act p g (TimedAt k) xs = xs
with_act p g (End a) xs = ended a g xs
with_act p g (Start a) xs =
    xs ++ record { action = a; opens = g; closes = if is_durative p a then None else Some g } ∷ []

-- n groups were opened before, with these acts
abbrev pub acts_from : Problem → ℕ → List Mark → List Act → List Act
acts_from p n [] xs = xs
acts_from p n (m ∷ w) xs =
    let opened = if m.fresh then n + 1 else n in
    acts_from p opened w (with_act p (opened - 1) m.item xs)

-- the acts of a word, in order of their starts; groups are counted from 0
abbrev pub acts_of : Problem → List Mark → List Act
acts_of p w = acts_from p 0 w []

abbrev pub timed_group : ℕ → Item → List ℕ
timed_group g (TimedAt k) = g ∷ []
timed_group g (End a) = []
timed_group g (Start a) = []

abbrev pub timed_from : ℕ → List Mark → List ℕ
timed_from n [] = []
timed_from n (m ∷ w) =
    let opened = if m.fresh then n + 1 else n in
    timed_group (opened - 1) m.item ++ timed_from opened w

-- the groups of a word's timed items, in order
abbrev pub timed_of : List Mark → List ℕ
timed_of w = timed_from 0 w
