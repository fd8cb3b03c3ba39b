-- What is wrong with a plan: each part of its validity, in the order in which the parts are judged.
use Rattle.std.specs.Prelude.{◌≡◌, ℕ, zero, suc, ◌+◌, ◌≤◌, ◌<◌, Bool, true, false, not, ◌&&◌, ◌||◌, ◌==◌, nat_le, nat_lt, List, [], ◌∷◌, ◌++◌, length, map, Option, Some, None, IsTrue}
use Rattle.std.specs.List.{list_any, list_all, find, position}
use Rattle.tp_spec.specs.declared.plan.Item.{Item}
use Rattle.tp_spec.specs.declared.plan.Plan.{Plan}
use Rattle.tp_spec.specs.declared.plan.Timed.{Timed}
use Rattle.tp_spec.specs.declared.plan.Limits.{Limits}
use Rattle.tp_spec.specs.declared.problem.Problem.{Problem}
use Rattle.tp_spec.specs.Lists.{is_empty, each_pair}
use Rattle.tp_spec.specs.States.{State, holds}
use Rattle.tp_spec.specs.Items.{invariants, own, changed, effects_of, fits}
use Rattle.tp_spec.specs.Interference.{interfere}
use Rattle.tp_spec.specs.Courses.{in_range, happening, runs_at, state_before, state_after, Passes}
use Rattle.tp_spec.specs.Courses as course
use Rattle.plan_validator.specs.declared.verdict.Verdict.{Verdict}
use Rattle.plan_validator.specs.declared.verdict.Verdict.TheVariants.{Valid, TooLong, TwiceAt, LengthOut, Overlap, EndOff, Clash, Unmet, Overflow, Broken, GoalUnmet}

-- whether two acts are not of one action and one start
abbrev pub starts_apart : Timed → Timed → Bool
starts_apart x y = not (x.action == y.action && x.start == y.start)

-- whether the earlier of two acts, where they are of one action, ends no later than the later
-- starts
abbrev pub in_turn : Timed → Timed → Bool
in_turn x y = not (x.action == y.action) || nat_le (x.start + x.length) y.start

-- An act of this start and action is the first that breaks a rule with one before it.
pub record IsFirstOut (keeps : Timed → Timed → Bool) (acts : List Timed) (start action : ℕ) :
    Type 0 where
  pub act : Timed
  pub before : List Timed
  pub behind : List Timed
  pub split : acts ≡ before ++ act ∷ behind
  pub starts : act.start ≡ start
  pub names : act.action ≡ action
  pub whole : IsTrue (each_pair keeps before)
  pub broken : IsTrue (not (list_all (λ x. keeps x act) before))

-- An act of this start and action is the first whose length is out of its action's range.
pub record IsLengthOut (p : Problem) (acts : List Timed) (start action : ℕ) : Type 0 where
  pub act : Timed
  pub first : find (λ x. not (in_range p x.action x.length)) acts ≡ Some act
  pub starts : act.start ≡ start
  pub names : act.action ≡ action

-- Whether a plan ends well: at 0 or at a happening, no later than the horizon, no earlier than any
-- act's end.
abbrev pub ends_well : Problem → Limits → Plan → Bool
ends_well p l plan =
    (plan.end == 0 || not (is_empty (happening p plan.acts plan.end))) && nat_le plan.end l.horizon
    && list_all (λ x. nat_le (x.start + x.length) plan.end) plan.acts

-- Each two members, the earlier in front, by the earlier one and then by the later one.
abbrev pub pairs : List Item → List (Item × Item)
pairs [] = []
pairs (i ∷ is) = map (λ j. (i, j)) is ++ pairs is

abbrev pub apart_at : Problem → List Timed → ℕ → Bool
apart_at p acts t = each_pair (λ i j. not (interfere p i j)) (happening p acts t)

-- The items a and b interfere at a tick, and stand there before all other pairs that do.
pub record IsClash (p : Problem) (acts : List Timed) (t : ℕ) (a b : Item) : Type 0 where
  pub first : find (λ x. interfere p x.0 x.1) (pairs (happening p acts t)) ≡ Some (a, b)

-- An item is the first at a tick whose own conditions do not hold before it.
pub record IsUnmet (p : Problem) (acts : List Timed) (t : ℕ) (item : Item) : Type 0 where
  pub apart : IsTrue (apart_at p acts t)
  pub state : State
  pub before : state_before p acts t ≡ Some state
  pub first : find (λ i. not (own p state i)) (happening p acts t) ≡ Some item

-- There is no state after a tick, and a fluent is the first whose new value leaves 64 bits.
pub record IsOverflow (p : Problem) (acts : List Timed) (t fluent : ℕ) : Type 0 where
  pub apart : IsTrue (apart_at p acts t)
  pub state : State
  pub before : state_before p acts t ≡ Some state
  pub met : IsTrue (list_all (own p state) (happening p acts t))
  pub none : state_after p acts t ≡ None
  pub wide : IsTrue (not (fits (changed state fluent (effects_of p (happening p acts t)))))
  pub first : (x : ℕ) → x < fluent
      → IsTrue (fits (changed state x (effects_of p (happening p acts t))))

-- whether an action runs at a tick and an invariant of it does not hold
abbrev pub is_broken_in : Problem → List Timed → ℕ → State → ℕ → Bool
is_broken_in p acts t s a =
    list_any (λ x. x.action == a && runs_at t x) acts && not (list_all (holds s) (invariants p a))

-- An action is the first that runs at a tick with an invariant that does not hold after it.
pub record IsBroken (p : Problem) (acts : List Timed) (t action : ℕ) : Type 0 where
  pub apart : IsTrue (apart_at p acts t)
  pub state : State
  pub before : state_before p acts t ≡ Some state
  pub met : IsTrue (list_all (own p state) (happening p acts t))
  pub next : State
  pub behind : state_after p acts t ≡ Some next
  pub broken : IsTrue (is_broken_in p acts t next action)
  pub first : (a : ℕ) → a < action → IsTrue (not (is_broken_in p acts t next a))

-- A goal part is the first that does not hold at the end.
pub record IsGoalUnmet (p : Problem) (plan : Plan) (part : ℕ) : Type 0 where
  pub state : State
  pub at_end : state_after p plan.acts plan.end ≡ Some state
  pub first : position (λ c. not (holds state c)) p.goal ≡ Some part

-- What is judged of the acts before any tick, in this order.
pub record AreActsWhole (p : Problem) (l : Limits) (acts : List Timed) : Type 0 where
  pub few : length acts ≤ l.actions
  pub once : IsTrue (each_pair starts_apart acts)
  pub lengths : IsTrue (list_all (λ x. in_range p x.action x.length) acts)
  pub turns : IsTrue (each_pair in_turn acts)

-- All that is judged before a tick is whole: the acts, the end, and each earlier tick.
pub record IsWholeTo (p : Problem) (l : Limits) (plan : Plan) (t : ℕ) : Type 0 where
  pub acts : AreActsWhole p l plan.acts
  pub ends : IsTrue (ends_well p l plan)
  pub ticks : (s : ℕ) → s < t → Passes p plan.acts s

pub record IsTooLong (l : Limits) (acts : List Timed) (count : ℕ) : Type 0 where
  pub counted : length acts ≡ count
  pub over : l.actions < count

pub record IsTwice (l : Limits) (acts : List Timed) (start action : ℕ) : Type 0 where
  pub few : length acts ≤ l.actions
  pub out : IsFirstOut starts_apart acts start action

pub record IsOutOfLength (p : Problem) (l : Limits) (acts : List Timed) (start action : ℕ) :
    Type 0 where
  pub few : length acts ≤ l.actions
  pub once : IsTrue (each_pair starts_apart acts)
  pub out : IsLengthOut p acts start action

pub record IsOverlap (p : Problem) (l : Limits) (acts : List Timed) (start action : ℕ)
    : Type 0 where
  pub few : length acts ≤ l.actions
  pub once : IsTrue (each_pair starts_apart acts)
  pub lengths : IsTrue (list_all (λ x. in_range p x.action x.length) acts)
  pub out : IsFirstOut in_turn acts start action

pub record IsEndOff (p : Problem) (l : Limits) (plan : Plan) (end : ℕ) : Type 0 where
  pub acts : AreActsWhole p l plan.acts
  pub stated : plan.end ≡ end
  pub broken : IsTrue (not (ends_well p l plan))

-- what a verdict on the acts alone says of them; the others say nothing of these
abbrev pub IsActsFault : Problem → Limits → List Timed → Verdict → Type 0
IsActsFault p l acts (TooLong count) = IsTooLong l acts count
IsActsFault p l acts (TwiceAt start action) = IsTwice l acts start action
IsActsFault p l acts (LengthOut start action) = IsOutOfLength p l acts start action
IsActsFault p l acts (Overlap start action) = IsOverlap p l acts start action
IsActsFault p l acts Valid = ⊥
IsActsFault p l acts (EndOff end) = ⊥
IsActsFault p l acts (Clash tick a b) = ⊥
IsActsFault p l acts (Unmet tick item) = ⊥
IsActsFault p l acts (Overflow tick fluent) = ⊥
IsActsFault p l acts (Broken tick action) = ⊥
IsActsFault p l acts (GoalUnmet part) = ⊥

-- what a verdict on one tick says of it; the others say nothing of a tick
abbrev pub IsFaultAt : Problem → List Timed → ℕ → Verdict → Type 0
IsFaultAt p acts t (Clash tick a b) = (tick ≡ t) × IsClash p acts t a b
IsFaultAt p acts t (Unmet tick item) = (tick ≡ t) × IsUnmet p acts t item
IsFaultAt p acts t (Overflow tick fluent) = (tick ≡ t) × IsOverflow p acts t fluent
IsFaultAt p acts t (Broken tick action) = (tick ≡ t) × IsBroken p acts t action
IsFaultAt p acts t Valid = ⊥
IsFaultAt p acts t (TooLong acts') = ⊥
IsFaultAt p acts t (TwiceAt start action) = ⊥
IsFaultAt p acts t (LengthOut start action) = ⊥
IsFaultAt p acts t (Overlap start action) = ⊥
IsFaultAt p acts t (EndOff end) = ⊥
IsFaultAt p acts t (GoalUnmet part) = ⊥

-- the first part that is broken is one of a tick up to the end
pub record IsTickFault (p : Problem) (l : Limits) (plan : Plan) (v : Verdict) : Type 0 where
  pub tick : ℕ
  pub in_time : tick ≤ plan.end
  pub before : IsWholeTo p l plan tick
  pub fault : IsFaultAt p plan.acts tick v

pub record IsGoalFault (p : Problem) (l : Limits) (plan : Plan) (part : ℕ) : Type 0 where
  pub before : IsWholeTo p l plan (suc plan.end)
  pub fault : IsGoalUnmet p plan part

-- Which verdict a plan gets: its first broken part, or `Valid` where it is valid.
-- PDDL 2.1, section 6 (validity); the order of the parts is this project's own.
abbrev pub IsVerdict : Problem → Limits → Plan → Verdict → Type 0
IsVerdict p l plan Valid = course.Valid p l plan
IsVerdict p l plan (TooLong acts) = IsTooLong l plan.acts acts
IsVerdict p l plan (TwiceAt start action) = IsTwice l plan.acts start action
IsVerdict p l plan (LengthOut start action) = IsOutOfLength p l plan.acts start action
IsVerdict p l plan (Overlap start action) = IsOverlap p l plan.acts start action
IsVerdict p l plan (EndOff end) = IsEndOff p l plan end
IsVerdict p l plan (Clash tick a b) = IsTickFault p l plan (Clash tick a b)
IsVerdict p l plan (Unmet tick item) = IsTickFault p l plan (Unmet tick item)
IsVerdict p l plan (Overflow tick fluent) = IsTickFault p l plan (Overflow tick fluent)
IsVerdict p l plan (Broken tick action) = IsTickFault p l plan (Broken tick action)
IsVerdict p l plan (GoalUnmet part) = IsGoalFault p l plan part
