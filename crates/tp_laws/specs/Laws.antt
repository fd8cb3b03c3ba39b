-- Laws over the planner's definitions.
use Rattle.std.specs.Prelude.{◌≡◌, ℕ, zero, suc, ◌≤◌, not, List, [], ◌∷◌, ◌++◌, length, Some, IsTrue, if◌then◌else◌}
use Rattle.std.specs.List.{last_or, list_all}
use Rattle.std.specs.List.Sorted.{IsPermutation}
use Rattle.tp_spec.specs.declared.plan.Item.{Item}
use Rattle.tp_spec.specs.declared.plan.Limits.{Limits}
use Rattle.tp_spec.specs.declared.plan.Plan.{Plan}
use Rattle.tp_spec.specs.declared.plan.Timed.{Timed}
use Rattle.tp_spec.specs.declared.problem.Problem.{Problem}
use Rattle.tp_spec.specs.Lists.{is_empty, each_pair}
use Rattle.tp_spec.specs.States.{State, holds}
use Rattle.tp_spec.specs.Items.{effects, effects_of, next, after}
use Rattle.tp_spec.specs.Interference.{interfere}
use Rattle.tp_spec.specs.Courses.{happening, state_before, state_after, Valid}
use Rattle.tp_spec.specs.Words.{spell, spelled, groups, progress, state_past}

-- A set of no items changes nothing.
abbrev pub NoItemsChangeNothing : Type 0
NoItemsChangeNothing = (p : Problem) (s : State) → after p s [] ≡ Some s

-- A tick that is no happening changes nothing, so the course of a plan needs its happenings alone.
abbrev pub QuietTicksChangeNothing : Type 0
QuietTicksChangeNothing =
    (p : Problem) (acts : List Timed) (t : ℕ) → IsTrue (is_empty (happening p acts t))
    → state_after p acts t ≡ state_before p acts t

-- The order in which items are listed changes nothing where no two interfere.
-- PDDL 2.1, section 6 (a happening is a set of actions).
abbrev pub OrderChangesNothing : Type 0
OrderChangesNothing = (p : Problem) (s : State) (xs ys : List Item) → IsPermutation xs ys
    → IsTrue (each_pair (λ i j. not (interfere p i j)) xs) → after p s xs ≡ after p s ys

-- the state after items that are carried out one after another
abbrev pub one_by_one : Problem → State → List Item → State
one_by_one p s [] = s
one_by_one p s (i ∷ rest) = one_by_one p (next s (effects p i)) rest

-- Items of which no two interfere do together what they do one after another, if values between are
-- not limited. PDDL 2.1, section 6 (simultaneous actions that do not interfere).
abbrev pub TogetherAsOneByOne : Type 0
TogetherAsOneByOne = (p : Problem) (s : State) (xs : List Item)
    → IsTrue (each_pair (λ i j. not (interfere p i j)) xs)
    → one_by_one p s xs ≡ next s (effects_of p xs)

-- the happenings of some acts before a tick, by their ticks
abbrev pub happening_ticks : Problem → List Timed → ℕ → List ℕ
happening_ticks p acts zero = []
happening_ticks p acts (suc t) =
    happening_ticks p acts t ++ (if is_empty (happening p acts t) then [] else t ∷ [])

-- A word has one group for each happening of its plan, and the plan ends at the last of them, at 0
-- where there is none.
pub record EndsAtLastGroup (p : Problem) (plan : Plan) : Type 0 where
  pub grouped : groups (spell p plan) ≡ length (happening_ticks p plan.acts (suc plan.end))
  pub ends : last_or (Some 0) (happening_ticks p plan.acts (suc plan.end)) ≡ Some plan.end

-- what holds of each valid plan
abbrev pub OfValid : (Problem → Plan → Type 0) → Type 0
OfValid Holds = (p : Problem) (l : Limits) (plan : Plan) → Valid p l plan → Holds p plan

-- Two valid plans of the same acts with the same word end at the same tick, whatever their limits.
abbrev pub WordGivesEnd : Type 0
WordGivesEnd = (p : Problem) (l m : Limits) (a b : Plan) → Valid p l a → Valid p m b
    → a.acts ≡ b.acts → spell p a ≡ spell p b → a.end ≡ b.end

-- Reading a plan's word up to a tick leads to the state before that tick.
abbrev pub ReadsStates : Problem → Plan → Type 0
ReadsStates p plan = (t : ℕ) → t ≤ suc plan.end
    → state_before p plan.acts t ≡ Some (state_past p (progress p (spelled p plan.acts t)))

-- Reading a plan's whole word leads to a state in which the goal holds.
abbrev pub ReadsToGoal : Problem → Plan → Type 0
ReadsToGoal p plan = IsTrue (list_all (holds (state_past p (progress p (spell p plan)))) p.goal)
