-- Which answer a replay gives to a history.
use Rattle.std.specs.Prelude.{◌≡◌, ℕ, List, [], ◌∷◌, ◌++◌, length}
use Rattle.tp_spec.specs.declared.event.Event.{Event}
use Rattle.tp_spec.specs.declared.plan.Limits.{Limits}
use Rattle.tp_spec.specs.declared.problem.Problem.{Problem}
use Rattle.tp_spec.specs.Machine.{Machine, first, step, state_of}
use Rattle.situated_machine.specs.declared.replayed.Replayed.{Replayed}
use Rattle.situated_machine.specs.declared.replayed.Replayed.TheVariants.{Run, Broken}
use Rattle.situated_machine.specs.declared.replayed.Rule.{Rule}
use Rattle.situated_machine.specs.Rules.{KeepsAll, BreaksFirst}

-- no event breaks a rule where it stands
abbrev pub AreKept : Problem → Limits → Machine → List Event → Type 0
AreKept p l m [] = Unit {0}
AreKept p l m (e ∷ es) = KeepsAll p l m e × AreKept p l (step l m e) es

-- The first event that breaks a rule, counted from 0, and the first rule that it breaks.
pub record IsBrokenAt (p : Problem) (l : Limits) (history : List Event) (event : ℕ) (rule : Rule) :
    Type 0 where
  pub front : List Event
  pub next : Event
  pub rest : List Event
  pub parts : history ≡ front ++ next ∷ rest
  pub counted : event ≡ length front
  pub kept : AreKept p l first front
  pub breaks : BreaksFirst p l (state_of l front) next rule

-- The answer to a history: its first broken rule, or the number of its events where there is none.
-- The definition speaks of states of the machine, the code keeps one as it goes.
abbrev pub IsReplay : Problem → Limits → List Event → Replayed → Type 0
IsReplay p l history (Run events) = AreKept p l first history × (events ≡ length history)
IsReplay p l history (Broken event rule) = IsBrokenAt p l history event rule
