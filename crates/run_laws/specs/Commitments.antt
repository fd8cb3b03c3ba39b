-- Laws on commitments: what a run's commitments keep, what a dispatch does to plans, and which act
-- is due by a word's deadline.
use Rattle.std.specs.Prelude.{◌≡◌, ◌↔◌, ℕ, ◌+◌, ◌≤◌, not, ◌||◌, ◌==◌, nat_le, List, [], ◌∷◌, ◌++◌, length, Some, IsTrue, slice_get}
use Rattle.std.specs.List.{list_all}
use Rattle.tp_spec.specs.declared.event.Event.{Event}
use Rattle.tp_spec.specs.declared.event.Event.TheVariants.{Dispatch}
use Rattle.tp_spec.specs.declared.plan.Limits.{Limits}
use Rattle.tp_spec.specs.declared.plan.Mark.{Mark}
use Rattle.tp_spec.specs.declared.plan.Plan.{Plan}
use Rattle.tp_spec.specs.declared.plan.Timed.{Timed}
use Rattle.tp_spec.specs.declared.problem.Problem.{Problem}
use Rattle.tp_spec.specs.Courses.{Possible, has_act, in_range}
use Rattle.tp_spec.specs.Machine.{Machine, IsRun, IsDue, state_of, candidate}
use Rattle.tp_spec.specs.Schedules.{Schedule, Live, IsGreatest, commits_by}
use Rattle.tp_spec.specs.Words.{Act, acts_of}
use Rattle.tp_laws.specs.Clocks.{IsDeadline, StartFrom}
use Rattle.tp_laws.specs.Plans.{AreInTurn}

-- Commitments as a run makes them: those of one action come in order of their starts, each ends
-- within the horizon, each length is in its action's range, and there are no more of them than
-- there may be acts.
pub record AreCommitted (p : Problem) (l : Limits) (commits : List Timed) : Type 0 where
  pub in_turn : AreInTurn commits
  pub within : IsTrue (list_all (λ c. nat_le (c.start + c.length) l.horizon) commits)
  pub ranged : IsTrue (list_all (λ c. in_range p c.action c.length) commits)
  pub few : length commits ≤ l.actions

-- The commitments behind a run begin with those behind each front of it; what came later starts at
-- the clock of that front or later.
abbrev pub CommitsGrow : Problem → Limits → Type 0
CommitsGrow p l = (front rest : List Event) → IsRun p l (front ++ rest)
    → (more : List Timed)
    × ((state_of l (front ++ rest)).commits ≡ (state_of l front).commits ++ more)
    × StartFrom (state_of l front).now more

-- Where a plan is possible behind a run it was possible behind each front of it: no event makes a
-- plan possible that was not.
abbrev pub PlansShrink : Problem → Limits → Type 0
PlansShrink p l = (front rest : List Event) (plan : Plan) → IsRun p l (front ++ rest)
    → Possible p l (state_of l (front ++ rest)).now (state_of l (front ++ rest)).commits plan
    → Possible p l (state_of l front).now (state_of l front).commits plan

-- a plan has an act, and no act of the same action before it but commitments
pub record Agrees (commits : List Timed) (act : Timed) (plan : Plan) : Type 0 where
  pub there : IsTrue (has_act plan.acts act)
  pub next : IsTrue (list_all (λ x. has_act commits x || not (x.action == act.action)
      || nat_le act.start x.start) plan.acts)

-- A dispatch takes away exactly the possible plans that disagree with it.
abbrev pub DispatchKeeps : Problem → Limits → Type 0
DispatchKeeps p l = (history : List Event) (act : Timed) (plan : Plan)
    → IsRun p l (history ++ Dispatch act ∷ [])
    → Possible p l (state_of l history).now ((state_of l history).commits ++ act ∷ []) plan
    ↔ (Possible p l (state_of l history).now (state_of l history).commits plan
    × Agrees (state_of l history).commits act plan)

-- The k-th start of an action is its k-th commitment in every possible plan.
abbrev pub StartsAreCommitted : Problem → Limits → Type 0
StartsAreCommitted p l = (now : ℕ) (commits : List Timed) (plan : Plan) (a k : ℕ) (c : Timed)
    → AreInTurn commits → Possible p l now commits plan
    → slice_get (commits_by a commits) k ≡ Some c
    → slice_get (commits_by a plan.acts) k ≡ Some c

-- The deadline of a live word is the tick, in its greatest schedule, of its first start that is no
-- commitment ..
abbrev pub DeadlineIsNextStart : Problem → Limits → Type 0
DeadlineIsNextStart p l = (now deadline : ℕ) (commits : List Timed) (w : List Mark)
    (x : Schedule) (a : Act) → IsDeadline p l commits w deadline
    → IsGreatest p l now commits w x → now ≤ l.horizon + 1 → Live p l now commits w
    → candidate [] commits (acts_of p w) ≡ Some a
    → (x.tick a.opens ≡ deadline) × (deadline ≤ l.horizon)

-- the best node has this word, whose deadline under the machine's commitments is this
pub record HasBest (p : Problem) (l : Limits) (m : Machine) (w : List Mark) (deadline : ℕ) : Type 0
  where
    pub told_apart : (act : Timed) (due : IsDue p l m act) → due.node.word ≡ w
    pub timely : IsDeadline p l m.commits w deadline

-- .. so that nothing is due while the best node's deadline is behind the clock and the lead, nor
-- where it is past the horizon.
abbrev pub NothingIsDue : Problem → Limits → Type 0
NothingIsDue p l = (m : Machine) (w : List Mark) (deadline : ℕ) → HasBest p l m w deadline
    → m.now ≤ l.horizon + 1
    → IsTrue (nat_le (m.now + l.lead + 1) deadline || nat_le (l.horizon + 1) deadline)
    → (act : Timed) → IsDue p l m act → ⊥

-- A word stays live where one of its starts that is due is committed.
abbrev pub DispatchKeepsLive : Problem → Limits → Type 0
DispatchKeepsLive p l = (m : Machine) (act : Timed) (due : IsDue p l m act)
    → Live p l m.now (m.commits ++ act ∷ []) due.node.word
