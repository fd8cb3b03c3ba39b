-- What the turns of a script do, line by line.
use Rattle.std.specs.Prelude.{◌≡◌, ◌⊎◌, ℕ, Bool, true, false, List, [], ◌∷◌, ◌++◌, length, get_or, map, Option, Some, None, IfSome, IsTrue}
use Rattle.std.specs.List.{list_all}
use Rattle.tp_spec.specs.declared.event.Cause.TheVariants.{Memory}
use Rattle.tp_spec.specs.declared.event.Event.{Event}
use Rattle.tp_spec.specs.declared.event.Event.TheVariants.{Tick, Halt}
use Rattle.tp_spec.specs.declared.plan.Limits.{Limits}
use Rattle.tp_spec.specs.declared.problem.Problem.{Problem}
use Rattle.tp_spec.specs.Machine.{IsWholeRun, first, state_of, readings}
use Rattle.machine_run.specs.Turns.{IsTurn, has_outcome}
use Rattle.open_tree.specs.Charter.{SameCharter}
use Rattle.open_tree.specs.Views.{JobView, TreeView}
use Rattle.script_text.specs.declared.script.ScriptLine.{ScriptLine}
use Rattle.script_text.specs.declared.script.Verb.{Verb}
use Rattle.script_text.specs.declared.script.Verb.TheVariants as verbs
use Rattle.script_text.specs.Follows.{follow, nothing, serves, taken_id}
use Rattle.script_text.specs.Playable.{are_in_turn, has_actor}
use Rattle.serial_runs.specs.Endings.{HasResult}
use Rattle.serial_runs.specs.OneWorker.{HasJob, IsBounded}
use Rattle.serial_runs.specs.Stopping.{HaltsBy, cause_by}
use Rattle.tp_world.specs.declared.sink.SendFault.{SendFault}

-- an event that may stand within a turn
abbrev pub is_inside : Event → Bool
is_inside (Tick actor reading) = false
is_inside (Halt cause) = false
is_inside _ = true

abbrev pub id_of : Option JobView → Option ℕ
id_of None = None
id_of (Some job) = Some job.id

-- a history grew by a line's turn, with this reading: its actor took this before
pub record PlaysLine (l : Limits) (line : ScriptLine) (took : Option ℕ) (reading : ℕ)
    (old new : List Event) : Type 0 where
  pub events : List Event
  pub grown : new ≡ old ++ Tick line.actor reading ∷ events
  pub inside : IsTrue (list_all is_inside events)
  pub serves : IsTrue (serves line.verb took (state_of l new) events)

-- what is held behind a line: what a take took, nothing behind a merge, and the same behind a look
abbrev pub Leaves : Verb → List Event → Option JobView → Option JobView → Type 0
Leaves verbs.Take events before behind = taken_id events ≡ id_of behind
Leaves verbs.Merge events before behind = behind ≡ None
Leaves verbs.Look events before behind = behind ≡ before

-- a line was played, and no outcome stands
pub record GoesOnBehind (p : Problem) (l : Limits) (line : ScriptLine) (reading : ℕ)
    (old new : List Event) (before behind : Option JobView) : Type 0 where
  pub standing : has_outcome new ≡ false
  pub turn : PlaysLine l line (id_of before) reading old new
  pub leaves : Leaves line.verb turn.events before behind
  pub job : line.verb ≡ verbs.Take → IfSome behind (HasJob p l new line.actor)

-- an outcome stands: the line was played, or memory was refused in its turn
pub record StopsAtLine (l : Limits) (line : ScriptLine) (took : Option ℕ) (reading : ℕ)
    (old new : List Event) : Type 0 where
  pub outcome : has_outcome new ≡ true
  pub how : (HasResult new × PlaysLine l line took reading old new)
      ⊎ (new ≡ old ++ Halt Memory ∷ [])

-- an actor had a turn without a deed, and this tells whether an outcome stands behind it
pub record IsIdle (actor reading : ℕ) (old new : List Event) (over : Bool) : Type 0 where
  pub turn : IsTurn old new actor reading None
  pub outcome : has_outcome new ≡ over

abbrev pub reading_in : ScriptLine → ℕ
reading_in line = line.reading

-- a line was played, with some reading, and no outcome stands
pub record GoesPast (p : Problem) (l : Limits) (line : ScriptLine) (old new : List Event)
    (before behind : Option JobView) : Type 0 where
  pub reading : ℕ
  pub goes : GoesOnBehind p l line reading old new before behind

-- an outcome stands behind a line, with some reading
pub record StopsPast (l : Limits) (line : ScriptLine) (took : Option ℕ) (old new : List Event) :
    Type 0 where
  pub reading : ℕ
  pub stops : StopsAtLine l line took reading old new

-- A line was played, and a command of its turn could not be put: the run is halted where no
-- outcome stands, and an outcome that stands is a result.
pub record StopsUnput (l : Limits) (line : ScriptLine) (took : Option ℕ) (old new : List Event)
    (fault : SendFault) : Type 0 where
  pub mid : List Event
  pub reading : ℕ
  pub turn : PlaysLine l line took reading old mid
  pub result : has_outcome mid ≡ true → HasResult mid
  pub halts : HaltsBy (cause_by fault) mid new

-- what an actor holds, of what all hold
abbrev pub held_by : List (Option JobView) → ℕ → Option JobView
held_by held actor = get_or held actor None

-- there is a place for each actor, and nobody holds anything
abbrev pub Nothing : List (Option JobView) → Type 0
Nothing held = (length held ≡ 9) × ((actor : ℕ) → held_by held actor ≡ None)

-- An actor that holds a job by the script holds what its last take took, if anything; another one
-- holds nothing.
pub record IsHeld (p : Problem) (l : Limits) (history : List Event) (actor : ℕ) (holds : Bool)
    (took : Option ℕ) (job : Option JobView) : Type 0 where
  pub free : holds ≡ false → job ≡ None
  pub taken : holds ≡ true → took ≡ id_of job
  pub is_job : IfSome job (HasJob p l history actor)

-- The script goes on: what is still to come of it may come, each actor holds what its last take
-- took, and what follows the rest from here follows the script.
pub record IsPlaying (p : Problem) (l : Limits) (script rest : List ScriptLine)
    (history : List Event) (held : List (Option JobView)) : Type 0 where
  pub bounded : IsBounded p l
  pub whole : IsWholeRun p l history
  pub standing : has_outcome history ≡ false
  pub holds : ℕ → Bool
  pub in_turn : IsTrue (are_in_turn holds rest)
  pub actors : IsTrue (list_all has_actor rest)
  pub took : ℕ → Option ℕ
  pub places : length held ≡ 9
  pub each : (actor : ℕ)
      → IsHeld p l history actor (holds actor) (took actor) (held_by held actor)
  pub read : map reading_in script ≡ readings history ++ map reading_in rest
  pub follows : (tail : List Event) → IsTrue (follow l (state_of l history) took rest tail)
      → IsTrue (follow l first nothing script (history ++ tail))

-- the same of a tree of this problem that began as another one
pub record IsAtLine {C : Type 0} (p : Problem) (began now : TreeView C)
    (script rest : List ScriptLine) (held : List (Option JobView)) : Type 0 where
  pub charter : SameCharter began now
  pub problem : now.problem ≡ p
  pub playing : IsPlaying p now.limits script rest now.history held
