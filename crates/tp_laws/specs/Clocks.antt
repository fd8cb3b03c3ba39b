-- Laws on the schedules of words under clocks and commitments, timed items included.
use Rattle.std.specs.Prelude.{◌≡◌, ◌↔◌, ℕ, ◌+◌, ◌≤◌, ◌<◌, min, List, [], ◌++◌, Option, Some, None, IfSome, slice_get}
use Rattle.tp_spec.specs.declared.plan.Limits.{Limits}
use Rattle.tp_spec.specs.declared.plan.Mark.{Mark}
use Rattle.tp_spec.specs.declared.plan.Timed.{Timed}
use Rattle.tp_spec.specs.declared.problem.Action.{Action}
use Rattle.tp_spec.specs.declared.problem.Problem.{Problem}
use Rattle.tp_spec.specs.Lists.{IsIn}
use Rattle.tp_spec.specs.Words.{Act, Sound, groups, acts_of, timed_of}
use Rattle.tp_spec.specs.Schedules.{Schedule, IsSchedule, IsGreatest, IsLeast, Live}
use Rattle.tp_spec.specs.Machine.{candidate}

-- what holds of each word, under all limits and commitments
abbrev pub OfWord : (Problem → Limits → List Timed → List Mark → Type 0) → Type 0
OfWord Holds = (p : Problem) (l : Limits) (c : List Timed) (w : List Mark) → Holds p l c w

-- A schedule at a clock is one at every earlier clock.
abbrev pub LaterIsEarlier : Problem → Limits → List Timed → List Mark → Type 0
LaterIsEarlier p l c w = (now later : ℕ) (x : Schedule) → now ≤ later
    → IsSchedule p l later c w x → IsSchedule p l now c w x

-- they start at a clock or later
abbrev pub StartFrom : ℕ → List Timed → Type 0
StartFrom now commits = (d : Timed) → IsIn d commits → now ≤ d.start

-- A schedule at a later clock, where commitments from the earlier clock on came behind the others,
-- is one at the earlier clock without them.
abbrev pub MoreIsFewer : Problem → Limits → List Timed → List Mark → Type 0
MoreIsFewer p l c w = (now later : ℕ) (more : List Timed) (x : Schedule) → now ≤ later
    → StartFrom now more → IsSchedule p l later (c ++ more) w x → IsSchedule p l now c w x

-- So is a live word live there.
abbrev pub LiveEarlier : Problem → Limits → List Timed → List Mark → Type 0
LiveEarlier p l c w = (now later : ℕ) (more : List Timed) → now ≤ later
    → StartFrom now more → Live p l later (c ++ more) w → Live p l now c w

-- The greatest schedule does not depend on the clock: it stays the greatest while the word is live.
abbrev pub StaysGreatest : Problem → Limits → List Timed → List Mark → Type 0
StaysGreatest p l c w = (now later : ℕ) (x : Schedule) → now ≤ later
    → IsGreatest p l now c w x → Live p l later c w → IsGreatest p l later c w x

-- What one number tells of a word under some commitments, at every clock: none where it is live at
-- each, else the last clock at which it is live.
abbrev pub TellsLive : Problem → Limits → List Timed → List Mark → Option ℕ → Type 0
TellsLive p l c w last = (now : ℕ) → Live p l now c w ↔ IfSome last (λ t. now ≤ t)

-- the tick that a schedule gives to the first start that is no commitment
abbrev pub last_clock : Schedule → Option Act → Option ℕ
last_clock x None = None
last_clock x (Some a) = Some (x.tick a.opens)

-- In the greatest schedule at clock 0 the tick of the first start that is no commitment tells at
-- which clocks the word is live.
abbrev pub GreatestTells : Problem → Limits → List Timed → List Mark → Type 0
GreatestTells p l c w = (x : Schedule) → Sound p w → IsGreatest p l 0 c w x
    → TellsLive p l c w (last_clock x (candidate [] c (acts_of p w)))

-- The last clock at which a word is live under some commitments, as far as the machine's clock
-- goes, which stops one tick past the horizon.
pub record IsDeadline (p : Problem) (l : Limits) (c : List Timed) (w : List Mark) (deadline : ℕ)
    : Type 0 where
  pub within : deadline ≤ l.horizon + 1
  pub tells : (now : ℕ) → now ≤ l.horizon + 1 → Live p l now c w ↔ now ≤ deadline

-- one past the horizon where a word is live at every clock
abbrev pub deadline_of : Limits → Option ℕ → ℕ
deadline_of l None = l.horizon + 1
deadline_of l (Some t) = min t (l.horizon + 1)

-- In the greatest schedule at clock 0 the tick of the first start that is no commitment is the
-- word's deadline.
abbrev pub GreatestGivesDeadline : Problem → Limits → List Timed → List Mark → Type 0
GreatestGivesDeadline p l c w = (x : Schedule) → Sound p w → IsGreatest p l 0 c w x
    → IsDeadline p l c w (deadline_of l (last_clock x (candidate [] c (acts_of p w))))

-- A live word has a greatest schedule at every clock ..
abbrev pub LiveHasGreatest : Problem → Limits → List Timed → List Mark → Type 0
LiveHasGreatest p l c w = (now : ℕ) → Live p l now c w → (x : Schedule) × IsGreatest p l now c w x

-- .. and a least one.
abbrev pub LiveHasLeast : Problem → Limits → List Timed → List Mark → Type 0
LiveHasLeast p l c w = (now : ℕ) → Live p l now c w → (x : Schedule) × IsLeast p l now c w x

-- a word's acts are of its problem's actions and lie in its groups, as its timed items do
pub record HasActsInGroups (p : Problem) (w : List Mark) : Type 0 where
  pub known : (a : Act) → IsIn a (acts_of p w)
      → (x : Action) × (slice_get p.actions a.action ≡ Some x)
  pub opens : (a : Act) → IsIn a (acts_of p w) → a.opens < groups w
  pub closes : (a : Act) → IsIn a (acts_of p w) → IfSome a.closes (λ g. g < groups w)
  pub timed : (g : ℕ) → IsIn g (timed_of w) → g < groups w

-- A sound word's are.
abbrev pub SoundHasActsInGroups : Type 0
SoundHasActsInGroups = (p : Problem) (w : List Mark) → Sound p w → HasActsInGroups p w
