-- How one happening is judged, and what is judged of a state.
use Rattle.std.specs.Prelude.{◌≡◌, ℕ, ◌<◌, ◌≤◌, suc, Bool, true, false, not, ◌&&◌, List, Option, Some, None, min}
use Rattle.std.specs.List.{list_all}
use Rattle.tp_spec.specs.declared.plan.Item.{Item}
use Rattle.tp_spec.specs.declared.plan.Timed.{Timed}
use Rattle.tp_spec.specs.declared.problem.Problem.{Problem}
use Rattle.tp_spec.specs.States.{State, holds}
use Rattle.tp_spec.specs.Items.{invariants, changed, effects_of, fits}
use Rattle.tp_spec.specs.Courses.{runs_at, state_before, state_after, Passes}
use Rattle.world_state.specs.View.{StateView, meaning, IsStateOf}
use Rattle.plan_validator.specs.declared.verdict.Verdict.{Verdict}
use Rattle.plan_validator.specs.declared.tick.Judged.{Judged}
use Rattle.plan_validator.specs.declared.tick.Judged.TheVariants.{Fault, Passed}
use Rattle.plan_validator.specs.declared.standings.Standing.{Standing}
use Rattle.plan_validator.specs.Standings.{AreStandings}
use Rattle.plan_validator.specs.Verdicts.{is_broken_in, IsFaultAt}

-- whether an act runs at a tick and an invariant of its action does not hold
abbrev pub is_act_broken : Problem → ℕ → State → Timed → Bool
is_act_broken p t s x = runs_at t x && not (list_all (holds s) (invariants p x.action))

-- the lesser of two numbers, of which the first may be missing
abbrev pub lesser : Option ℕ → ℕ → ℕ
lesser None a = a
lesser (Some b) a = min b a

-- an action is the first that runs at a tick with an invariant that does not hold
pub record IsFirstBroken (p : Problem) (acts : List Timed) (t : ℕ) (s : State) (action : ℕ) :
    Type 0 where
  pub broken : is_broken_in p acts t s action ≡ true
  pub first : (a : ℕ) → a < action → is_broken_in p acts t s a ≡ false

-- a fluent is the first whose new value leaves 64 bits
pub record IsFirstOver (p : Problem) (s : State) (items : List Item) (fluent : ℕ) : Type 0 where
  pub wide : fits (changed s fluent (effects_of p items)) ≡ false
  pub first : (x : ℕ) → x < fluent → fits (changed s x (effects_of p items)) ≡ true

-- a tick is whole, and leads to a state
pub record IsStep (p : Problem) (acts : List Timed) (t : ℕ) (next : StateView) : Type 0 where
  pub passes : Passes p acts t
  pub leads : state_after p acts t ≡ Some (meaning next)
  pub of_problem : IsStateOf p next

abbrev pub IsJudged : Problem → List Timed → ℕ → Judged → Type 0
IsJudged p acts t (Fault v) = IsFaultAt p acts t v
IsJudged p acts t (Passed next) = IsStep p acts t next

-- Up to a tick all is whole, nothing happens from there to what is left, and this is the state.
pub record IsReached (p : Problem) (acts : List Timed) (end : ℕ) (state : StateView)
    (rest : List Standing) : Type 0 where
  pub tick : ℕ
  pub in_time : tick ≤ suc end
  pub passed : (u : ℕ) → u < tick → Passes p acts u
  pub before : state_before p acts tick ≡ Some (meaning state)
  pub of_problem : IsStateOf p state
  pub left : AreStandings p acts tick rest

-- the first part of a tick up to the end that is broken
pub record IsFaultUpTo (p : Problem) (acts : List Timed) (end : ℕ) (v : Verdict) : Type 0 where
  pub tick : ℕ
  pub in_time : tick ≤ end
  pub passed : (u : ℕ) → u < tick → Passes p acts u
  pub fault : IsFaultAt p acts tick v

-- all ticks up to the end are whole, and lead to a state
pub record IsThrough (p : Problem) (acts : List Timed) (end : ℕ) (state : StateView) : Type 0 where
  pub passed : (u : ℕ) → u < suc end → Passes p acts u
  pub leads : state_after p acts end ≡ Some (meaning state)

abbrev pub IsCourse : Problem → List Timed → ℕ → Judged → Type 0
IsCourse p acts end (Fault v) = IsFaultUpTo p acts end v
IsCourse p acts end (Passed state) = IsThrough p acts end state
