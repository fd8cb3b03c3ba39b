-- From schedules to the solutions of a word's network, and back.
use Rattle.std.specs.Prelude.{◌≡◌, ℕ, ◌+◌, ◌<◌, ◌≤◌, List, length, IfSome, slice_get}
use Rattle.tp_spec.specs.declared.plan.Limits.{Limits}
use Rattle.tp_spec.specs.declared.plan.Mark.{Mark}
use Rattle.tp_spec.specs.declared.plan.Timed.{Timed}
use Rattle.tp_spec.specs.declared.problem.Problem.{Problem}
use Rattle.tp_spec.specs.Lists.{IsIn}
use Rattle.tp_spec.specs.Words.{Act, groups, acts_of, timed_of}
use Rattle.tp_spec.specs.Schedules.{Schedule, IsSchedule, IsGreatest, IsLeast, finish, awaited}
use Rattle.tp_laws.specs.Clocks.{HasActsInGroups}
use Rattle.word_rows.specs.Rows.{open_acts, end_of, variables, KeepsWord}

-- what holds of each word with acts in its groups, as sound words are, at each clock and under all
-- limits and commitments
abbrev pub OfWords : (Problem → Limits → ℕ → List Timed → List Mark → Type 0) → Type 0
OfWords Holds = (p : Problem) (l : Limits) (now : ℕ) (c : List Timed) (w : List Mark)
    → HasActsInGroups p w → Holds p l now c w

-- ticks of the variables are the ticks of a schedule
pub record AreTicksOf (p : Problem) (w : List Mark) (x : Schedule) (t : ℕ → ℕ) : Type 0 where
  pub ticks : (g : ℕ) → g < groups w → t g ≡ x.tick g
  pub ends : (a : Act) → IsIn a (acts_of p w)
      → t (end_of (groups w) (open_acts (acts_of p w)) a) ≡ finish x a

-- What no bound says: starts and awaited commitments are together at most the limit, and the next
-- timed item does not stand at 0 behind a group.
pub record HasRoom (p : Problem) (l : Limits) (commits : List Timed) (w : List Mark) : Type 0 where
  pub few : length (acts_of p w) + length (awaited (acts_of p w) commits) ≤ l.actions
  pub next : 0 < groups w → IfSome (slice_get p.timed (length (timed_of w))) (λ i. 0 < i.tick)

-- The ticks of a schedule keep the bounds and rows, where ends are within the horizon.
abbrev pub SchedulesAreKept : Problem → Limits → ℕ → List Timed → List Mark → Type 0
SchedulesAreKept p l now c w = (x : Schedule) (t : ℕ → ℕ) → AreTicksOf p w x t
    → ((v : ℕ) → groups w ≤ v → v < variables p w → t v ≤ l.horizon)
    → IsSchedule p l now c w x → KeepsWord p l now c w t × HasRoom p l c w

-- Ticks that keep them are a schedule's, where the word has room.
abbrev pub KeptAreSchedules : Problem → Limits → ℕ → List Timed → List Mark → Type 0
KeptAreSchedules p l now c w = (x : Schedule) (t : ℕ → ℕ) → AreTicksOf p w x t
    → KeepsWord p l now c w t → HasRoom p l c w → IsSchedule p l now c w x

-- ticks that keep a word's bounds and rows, and are the last, or the first, in every component
pub record IsLast (p : Problem) (l : Limits) (now : ℕ) (c : List Timed) (w : List Mark)
    (t : ℕ → ℕ) : Type 0 where
  pub keeps : KeepsWord p l now c w t
  pub last : (u : ℕ → ℕ) → KeepsWord p l now c w u → (v : ℕ) → v < variables p w → u v ≤ t v

pub record IsFirst (p : Problem) (l : Limits) (now : ℕ) (c : List Timed) (w : List Mark)
    (t : ℕ → ℕ) : Type 0 where
  pub keeps : KeepsWord p l now c w t
  pub first : (u : ℕ → ℕ) → KeepsWord p l now c w u → (v : ℕ) → v < variables p w → t v ≤ u v

-- The greatest ticks are the greatest schedule ..
abbrev pub GreatestIsGreatest : Problem → Limits → ℕ → List Timed → List Mark → Type 0
GreatestIsGreatest p l now c w = (x : Schedule) (t : ℕ → ℕ) → AreTicksOf p w x t
    → HasRoom p l c w → IsLast p l now c w t → IsGreatest p l now c w x

-- .. the least ones the least ..
abbrev pub LeastIsLeast : Problem → Limits → ℕ → List Timed → List Mark → Type 0
LeastIsLeast p l now c w = (x : Schedule) (t : ℕ → ℕ) → AreTicksOf p w x t
    → HasRoom p l c w → IsFirst p l now c w t → IsLeast p l now c w x

-- .. and where none keep the bounds and rows there is no schedule.
abbrev pub NoneIsNone : Problem → Limits → ℕ → List Timed → List Mark → Type 0
NoneIsNone p l now c w = ((t : ℕ → ℕ) → ¬ (KeepsWord p l now c w t))
    → (x : Schedule) → ¬ (IsSchedule p l now c w x)
