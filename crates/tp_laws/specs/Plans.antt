-- Laws that tie words to plans: which words possible plans spell, at every clock and under all
-- commitments, with durative actions, fluents and timed items.
use Rattle.std.specs.Prelude.{ℕ, suc, ◌≡◌, ◌+◌, ◌<◌, ◌≤◌, Bool, not, ◌&&◌, ◌||◌, ◌==◌, nat_lt, List, [], ◌∷◌, length, IsTrue, slice_get, if◌then◌else◌}
use Rattle.std.specs.List.{list_all, range_with_len}
use Rattle.tp_spec.specs.declared.plan.Item.{Item}
use Rattle.tp_spec.specs.declared.plan.Limits.{Limits}
use Rattle.tp_spec.specs.declared.plan.Mark.{Mark}
use Rattle.tp_spec.specs.declared.plan.Plan.{Plan}
use Rattle.tp_spec.specs.declared.plan.Timed.{Timed}
use Rattle.tp_spec.specs.declared.problem.Problem.{Problem}
use Rattle.tp_spec.specs.Lists.{is_empty, each_pair, some_and, BeginsWith}
use Rattle.tp_spec.specs.States.{holds}
use Rattle.tp_spec.specs.Courses.{Possible, Valid, happening}
use Rattle.tp_spec.specs.WellFormed.{IsWellFormed}
use Rattle.tp_spec.specs.Words.{Progress, Sound, spell, progress, closes, runs_after, state_past, groups, acts_of}
use Rattle.tp_spec.specs.Schedules.{Schedule, IsSchedule, Live, awaited, last_tick, plan_of}

-- of two commitments of one action the first starts before the second
abbrev pub AreInTurn : List Timed → Type 0
AreInTurn commits =
    IsTrue (each_pair (λ c d. not (c.action == d.action) || nat_lt c.start d.start) commits)

-- whether no action runs after the last group
abbrev pub none_run : Problem → Progress → Bool
none_run p c = list_all (λ a. not (runs_after p c a)) (range_with_len 0 (length p.actions))

-- whether a timed item stands at tick 0
abbrev pub begins_timed : Problem → Bool
begins_timed p = some_and (slice_get p.timed 0) (λ i. i.tick == 0)

-- Whether a word may be a whole plan's, whatever is committed: its last group closes and nothing
-- runs after it, each goal part holds after it, and, for the empty word, nothing stands at tick 0.
-- This project's own.
abbrev pub is_whole : Problem → List Mark → Bool
is_whole p w =
    closes p (progress p w) && none_run p (progress p w)
    && list_all (holds (state_past p (progress p w))) p.goal
    && not (is_empty w && begins_timed p)

-- whether a word may be a whole plan's, and has each commitment
abbrev pub is_complete : Problem → List Timed → List Mark → Bool
is_complete p commits w = is_whole p w && is_empty (awaited (acts_of p w) commits)

-- what holds of each well-formed problem, under all limits
abbrev pub OfFormed : (Problem → Limits → Type 0) → Type 0
OfFormed Holds = (p : Problem) (l : Limits) → IsWellFormed p → Holds p l

-- The word of a valid plan is sound.
abbrev pub WordsOfPlansAreSound : Problem → Limits → Type 0
WordsOfPlansAreSound p l = (plan : Plan) → Valid p l plan → Sound p (spell p plan)

-- It is whole.
abbrev pub WordsOfPlansAreWhole : Problem → Limits → Type 0
WordsOfPlansAreWhole p l = (plan : Plan) → Valid p l plan → IsTrue (is_whole p (spell p plan))

-- Each front of a possible plan's word is live.
abbrev pub FrontsAreLive : Problem → Limits → Type 0
FrontsAreLive p l = (now : ℕ) (commits : List Timed) (plan : Plan) (front : List Mark)
    → AreInTurn commits → Possible p l now commits plan → BeginsWith (spell p plan) front
    → Live p l now commits front

-- A word that is not live begins no possible plan's word.
abbrev pub DeadIsHopeless : Problem → Limits → Type 0
DeadIsHopeless p l = (now : ℕ) (commits : List Timed) (w : List Mark) → AreInTurn commits
    → ¬ (Live p l now commits w)
    → (plan : Plan) → Possible p l now commits plan → ¬ (BeginsWith (spell p plan) w)

-- A possible plan is the one of its word and some schedule of it ..
abbrev pub PlansAreOfWords : Problem → Limits → Type 0
PlansAreOfWords p l = (now : ℕ) (commits : List Timed) (plan : Plan)
    → AreInTurn commits → Possible p l now commits plan
    → (x : Schedule) × IsSchedule p l now commits (spell p plan) x
    × (plan_of p (spell p plan) x ≡ plan)

-- .. and its word is complete.
abbrev pub WordsOfPlansAreComplete : Problem → Limits → Type 0
WordsOfPlansAreComplete p l = (now : ℕ) (commits : List Timed) (plan : Plan)
    → AreInTurn commits → Possible p l now commits plan
    → IsTrue (is_complete p commits (spell p plan))

-- the items of group g, where n groups were opened before
abbrev pub items_from : ℕ → ℕ → List Mark → List Item
items_from n g [] = []
items_from n g (m ∷ w) =
    let opened = if m.fresh then n + 1 else n in
    if opened == suc g then m.item ∷ items_from opened g w else items_from opened g w

-- the items of a word's group, in order; groups are counted from 0
abbrev pub items_in : ℕ → List Mark → List Item
items_in g w = items_from 0 g w

-- In the plan of a word and a schedule the happenings up to the end are the word's groups: at the
-- tick of a group its items stand, and at any other tick nothing does.
pub record AreHappenings (p : Problem) (w : List Mark) (x : Schedule) : Type 0 where
  pub at_groups : (g : ℕ) → g < groups w
      → happening p (plan_of p w x).acts (x.tick g) ≡ items_in g w
  pub between : (t : ℕ) → t ≤ last_tick x (groups w)
      → ((g : ℕ) → g < groups w → ¬ (x.tick g ≡ t)) → happening p (plan_of p w x).acts t ≡ []

-- The groups of a sound and complete word are the happenings of its plans ..
abbrev pub GroupsAreHappenings : Problem → Limits → Type 0
GroupsAreHappenings p l = (now : ℕ) (commits : List Timed) (w : List Mark) (x : Schedule)
    → AreInTurn commits → Sound p w → IsTrue (is_complete p commits w)
    → IsSchedule p l now commits w x → AreHappenings p w x

-- .. so that the plan of a sound and complete word and one of its schedules has this word ..
abbrev pub CompleteWordsAreSpelled : Problem → Limits → Type 0
CompleteWordsAreSpelled p l = (now : ℕ) (commits : List Timed) (w : List Mark) (x : Schedule)
    → AreInTurn commits → Sound p w → IsTrue (is_complete p commits w)
    → IsSchedule p l now commits w x → spell p (plan_of p w x) ≡ w

-- .. and is possible.
abbrev pub CompleteWordsArePossible : Problem → Limits → Type 0
CompleteWordsArePossible p l = (now : ℕ) (commits : List Timed) (w : List Mark) (x : Schedule)
    → AreInTurn commits → Sound p w → IsTrue (is_complete p commits w)
    → IsSchedule p l now commits w x → Possible p l now commits (plan_of p w x)

-- the laws between words and plans on which the search stands
pub record WordLaws (p : Problem) (l : Limits) : Type 0 where
  pub fronts : FrontsAreLive p l
  pub whole : WordsOfPlansAreWhole p l
  pub spelled : CompleteWordsAreSpelled p l
  pub possible : CompleteWordsArePossible p l
