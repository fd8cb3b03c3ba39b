-- Schedules of words, which words are live, and the plan of a schedule.
use Rattle.std.specs.Prelude.{◌≡◌, ℕ, zero, suc, ◌+◌, ◌-◌, ◌<◌, ◌≤◌, ◌==◌, List, [], ◌∷◌, length, map, Option, Some, None, IsTrue, IfSome, if◌then◌else◌, slice_get}
use Rattle.std.specs.List.{list_any, filter}
use Rattle.tp_spec.specs.declared.plan.Limits.{Limits}
use Rattle.tp_spec.specs.declared.plan.Mark.{Mark}
use Rattle.tp_spec.specs.declared.plan.Plan.{Plan}
use Rattle.tp_spec.specs.declared.plan.Timed.{Timed}
use Rattle.tp_spec.specs.declared.problem.Problem.{Problem}
use Rattle.tp_spec.specs.Lists.{IsIn}
use Rattle.tp_spec.specs.Courses.{in_range}
use Rattle.tp_spec.specs.Words.{Act, Sound, groups, acts_of, timed_of}

-- A tick for each group, and an end for each action that runs after the word. What it gives beyond
-- these says nothing.
pub record Schedule : Type 0 where
  pub tick : ℕ → ℕ
  pub end : ℕ → ℕ

-- the tick at which an act ends
abbrev pub finish : Schedule → Act → ℕ
finish x a = elim a.closes [ Some g ↦ x.tick g | None ↦ x.end a.action ]

abbrev pub acts_by : ℕ → List Act → List Act
acts_by a acts = filter (λ x. x.action == a) acts

abbrev pub commits_by : ℕ → List Timed → List Timed
commits_by a commits = filter (λ c. c.action == a) commits

-- the first of a kind taken out
abbrev pub without_first : ℕ → List Act → List Act
without_first a [] = []
without_first a (x ∷ xs) = if x.action == a then xs else x ∷ without_first a xs

-- the commitments that are not yet in a word with these acts: the k-th start of an action is its
-- k-th commitment
abbrev pub awaited : List Act → List Timed → List Timed
awaited acts [] = []
awaited acts (c ∷ rest) =
    if list_any (λ x. x.action == c.action) acts then awaited (without_first c.action acts) rest
    else c ∷ awaited acts rest

-- what an act owes to its commitment, or to the clock where it has none
abbrev pub IsOnTime : Schedule → ℕ → Act → Option Timed → Type 0
IsOnTime x now a None = now ≤ x.tick a.opens
IsOnTime x now a (Some c) = (x.tick a.opens ≡ c.start) × (finish x a ≡ c.start + c.length)

-- an act's length is in its action's range, and it ends within the horizon
pub record IsInLength (p : Problem) (l : Limits) (x : Schedule) (a : Act) : Type 0 where
  pub forward : x.tick a.opens ≤ finish x a
  pub allowed : IsTrue (in_range p a.action (finish x a - x.tick a.opens))
  pub within : finish x a ≤ l.horizon

-- The schedules of a word. `rises`, `within`: groups rise strictly, and no later than the horizon.
-- `timed`, `before_next`: timed items stand at their ticks, and all groups before the first one
-- that is not in the word. `open_late`: a running act ends at or after each group. `on_time`: the
-- k-th start of an action is its k-th commitment, or at the clock or later. `late`: the commitments
-- that are not yet in the word start at or after each group. `few`: these and the starts in the
-- word are together at most the limit. A simple temporal problem (Dechter, Meiri and Pearl 1991);
-- the code relaxes its rows, the definition speaks of all assignments.
pub record IsSchedule (p : Problem) (l : Limits) (now : ℕ) (commits : List Timed) (w : List Mark)
    (x : Schedule) : Type 0 where
  pub rises : (g : ℕ) → suc g < groups w → x.tick g < x.tick (suc g)
  pub within : (g : ℕ) → g < groups w → x.tick g ≤ l.horizon
  pub timed : (k : ℕ) → IfSome (slice_get (timed_of w) k)
      (λ g. IfSome (slice_get p.timed k) (λ i. x.tick g ≡ i.tick))
  pub before_next : (g : ℕ) → g < groups w
      → IfSome (slice_get p.timed (length (timed_of w))) (λ i. x.tick g < i.tick)
  pub lengths : (a : Act) → IsIn a (acts_of p w) → IsInLength p l x a
  pub open_late : (a : Act) (g : ℕ) → IsIn a (acts_of p w) → a.closes ≡ None → g < groups w
      → x.tick g ≤ finish x a
  pub on_time : (a k : ℕ)
      → IfSome (slice_get (acts_by a (acts_of p w)) k)
      (λ act. IsOnTime x now act (slice_get (commits_by a commits) k))
  pub late : (c : Timed) (g : ℕ) → IsIn c (awaited (acts_of p w) commits) → g < groups w
      → x.tick g ≤ c.start
  pub few : length (acts_of p w) + length (awaited (acts_of p w) commits) ≤ l.actions

-- A sound word that has a schedule.
-- Dechter, Meiri and Pearl 1991 (a simple temporal problem that is consistent).
pub record Live (p : Problem) (l : Limits) (now : ℕ) (commits : List Timed) (w : List Mark) :
    Type 0 where
  pub sound : Sound p w
  pub schedule : Schedule
  pub is : IsSchedule p l now commits w schedule

-- no later at any group and at the end of any running act
pub record IsNoLater (p : Problem) (w : List Mark) (x y : Schedule) : Type 0 where
  pub ticks : (g : ℕ) → g < groups w → x.tick g ≤ y.tick g
  pub ends : (a : Act) → IsIn a (acts_of p w) → a.closes ≡ None → x.end a.action ≤ y.end a.action

-- The schedules that are greatest, and least, in every component; a live word has both. Dechter,
-- Meiri and Pearl 1991 (the latest and the earliest times). The definition compares with all
-- schedules, the code relaxes bounds.
pub record IsGreatest (p : Problem) (l : Limits) (now : ℕ) (commits : List Timed) (w : List Mark)
    (x : Schedule) : Type 0 where
  pub is : IsSchedule p l now commits w x
  pub last : (y : Schedule) → IsSchedule p l now commits w y → IsNoLater p w y x

pub record IsLeast (p : Problem) (l : Limits) (now : ℕ) (commits : List Timed) (w : List Mark)
    (x : Schedule) : Type 0 where
  pub is : IsSchedule p l now commits w x
  pub first : (y : Schedule) → IsSchedule p l now commits w y → IsNoLater p w x y

-- an act by a schedule
abbrev pub timed_act : Schedule → Act → Timed
timed_act x a =
    record { action = a.action; start = x.tick a.opens; length = finish x a - x.tick a.opens }

-- the tick of the last group, or 0 for the empty word
abbrev pub last_tick : Schedule → ℕ → ℕ
last_tick x zero = 0
last_tick x (suc g) = x.tick g

-- The plan of a word without a running act. Acts come in order of their starts, so in a plan's
-- order. This project's own.
abbrev pub plan_of : Problem → List Mark → Schedule → Plan
plan_of p w x = record { acts = map (timed_act x) (acts_of p w); end = last_tick x (groups w) }
