-- Laws between the rules that a replay judges and the runs of the machine.
use Rattle.std.specs.Prelude.{◌≡◌, ◌≤◌, ℕ, ◌+◌, ◌==◌, max, not, List, [], ◌∷◌, length, IsTrue}
use Rattle.std.specs.List.{list_all}
use Rattle.tp_spec.specs.declared.event.Event.{Event}
use Rattle.tp_spec.specs.declared.event.Event.TheVariants.{Drop, Exhaust}
use Rattle.tp_spec.specs.declared.plan.Limits.{Limits}
use Rattle.tp_spec.specs.declared.plan.Mark.{Mark}
use Rattle.tp_spec.specs.declared.plan.Plan.{Plan}
use Rattle.tp_spec.specs.declared.plan.Timed.{Timed}
use Rattle.tp_spec.specs.declared.problem.Problem.{Problem}
use Rattle.tp_spec.specs.Lists.{BeginsWith, IsIn, each_pair}
use Rattle.tp_spec.specs.Courses.{Possible}
use Rattle.tp_spec.specs.Machine.{Machine, Node, AreLiveMarks, IsDue, IsRun, first, step, state_of, word_of}
use Rattle.tp_spec.specs.Schedules.{Live}
use Rattle.tp_spec.specs.Words.{spell}
use Rattle.run_laws.specs.Commitments.{AreCommitted}
use Rattle.run_laws.specs.Histories.{is_below}
use Rattle.situated_machine.specs.declared.replayed.Replayed.{Replayed}
use Rattle.situated_machine.specs.declared.replayed.Replayed.TheVariants.{Run}
use Rattle.situated_machine.specs.declared.replayed.Rule.{Rule}
use Rattle.situated_machine.specs.Rules.{IsPlanOf}
use Rattle.situated_machine.specs.Replays.{AreKept, IsBrokenAt, IsReplay}

-- What no rule judges of an event, since it speaks of all possible plans: the word of a Drop begins
-- none, and where an Exhaust stands there is none.
abbrev pub IsFounded : Problem → Limits → Machine → Event → Type 0
IsFounded p l m (Drop id) = (plan : Plan) → Possible p l m.now m.commits plan
    → ¬ (BeginsWith (spell p plan) (word_of id m.nodes))
IsFounded p l m Exhaust = (plan : Plan) → ¬ (Possible p l m.now m.commits plan)
IsFounded p l m other = Unit {0}

abbrev pub AreFounded : Problem → Limits → Machine → List Event → Type 0
AreFounded p l m [] = Unit {0}
AreFounded p l m (e ∷ es) = IsFounded p l m e × AreFounded p l (step l m e) es

-- No event of a run breaks a rule, and its Drops and Exhausts are founded ..
abbrev pub RunsAreFounded : Problem → Limits → Type 0
RunsAreFounded p l = (history : List Event) → IsRun p l history
    → AreKept p l first history × AreFounded p l first history

-- .. and no other history is so.
abbrev pub FoundedAreRuns : Problem → Limits → Type 0
FoundedAreRuns p l = (history : List Event) → AreKept p l first history
    → AreFounded p l first history → IsRun p l history

-- A history has one answer.
abbrev pub OneAnswer : Type 0
OneAnswer = (p : Problem) (l : Limits) (history : List Event) (a b : Replayed)
    → IsReplay p l history a → IsReplay p l history b → a ≡ b

-- The answer to a run is the number of its events.
abbrev pub RunsReplayWhole : Problem → Limits → Type 0
RunsReplayWhole p l = (history : List Event) (answer : Replayed) → IsRun p l history
    → IsReplay p l history answer → answer ≡ Run (length history)

-- A run is broken nowhere.
abbrev pub RunsAreNotBroken : Problem → Limits → Type 0
RunsAreNotBroken p l = (history : List Event) (event : ℕ) (rule : Rule) → IsRun p l history
    → ¬ (IsBrokenAt p l history event rule)

-- What the state behind each history keeps whose events break no rule, founded or not: what a run's
-- states keep, but that each possible plan is covered.
pub record IsOrderly (p : Problem) (l : Limits) (m : Machine) : Type 0 where
  pub committed : AreCommitted p l m.commits
  pub clocked : m.now ≤ l.horizon + 1
  pub told_apart : IsTrue (each_pair (λ a b. not (a.id == b.id)) m.nodes)
  pub below : IsTrue (list_all (is_below m.made) m.nodes)
  pub live : (n : Node) → IsIn n m.nodes → Live p l 0 [] n.word
  pub few : m.made ≤ max 1 l.nodes
  pub short : (n : Node) → IsIn n m.nodes → length n.word ≤ n.id

abbrev pub KeptLeadToOrder : Problem → Limits → Type 0
KeptLeadToOrder p l = (history : List Event) → AreKept p l first history
    → IsOrderly p l (state_of l history)

-- A rule that asks for one thing asks for one alone: the live marks of a word ..
abbrev pub OneSetOfMarks : Problem → Limits → Type 0
OneSetOfMarks p l = (m : Machine) (w a b : List Mark) → AreLiveMarks p l m w a
    → AreLiveMarks p l m w b → a ≡ b

-- .. the act that is due, where ids tell nodes apart ..
abbrev pub OneDueAct : Problem → Limits → Type 0
OneDueAct p l = (m : Machine) (a b : Timed) → IsTrue (each_pair (λ c d. not (c.id == d.id)) m.nodes)
    → IsDue p l m a → IsDue p l m b → a ≡ b

-- .. and the plan of a word.
abbrev pub OnePlan : Problem → Limits → Type 0
OnePlan p l = (m : Machine) (w : List Mark) (a b : Plan) → IsPlanOf p l m w a
    → IsPlanOf p l m w b → a ≡ b
