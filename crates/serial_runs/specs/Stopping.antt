-- What a turn puts, and what is left where a command could not be put.
use Rattle.std.specs.Prelude.{◌≡◌, true, false, List, [], ◌∷◌, ◌++◌, Result, Ok, Err}
use Rattle.tp_spec.specs.declared.event.Cause.{Cause}
use Rattle.tp_spec.specs.declared.event.Cause.TheVariants.{Memory, Out}
use Rattle.tp_spec.specs.declared.event.Event.{Event}
use Rattle.tp_spec.specs.declared.event.Event.TheVariants.{Halt}
use Rattle.tp_spec.specs.declared.plan.Limits.{Limits}
use Rattle.tp_spec.specs.declared.problem.Problem.{Problem}
use Rattle.tp_world.specs.Sinks.{SinkView}
use Rattle.tp_world.specs.declared.sink.SendFault.{SendFault}
use Rattle.tp_world.specs.declared.sink.SendFault.TheVariants.{Failed, NoMemory}
use Rattle.machine_run.specs.Turns.{has_outcome}
use Rattle.serial_runs.specs.Commands.{PutsAll, GivesCommands}

-- for what a run is halted where a command could not be put
abbrev pub cause_by : SendFault → Cause
cause_by Failed = Out
cause_by NoMemory = Memory

-- a run is halted for a cause, where no outcome stands
pub record HaltsBy (cause : Cause) (old new : List Event) : Type 0 where
  pub over : has_outcome old ≡ true → new ≡ old
  pub halted : has_outcome old ≡ false → new ≡ old ++ Halt cause ∷ []

-- it goes on as it was, or is halted for what could not be put
abbrev pub StopsBy : Result Unit SendFault → List Event → List Event → Type 0
StopsBy (Ok done) old new = new ≡ old
StopsBy (Err fault) old new = HaltsBy (cause_by fault) old new

-- an answer without its value
abbrev pub answer_of : {A : Type 0} → Result A SendFault → Result Unit SendFault
answer_of (Ok x) = Ok tt
answer_of (Err fault) = Err fault

-- Where all commands of a history were put since some time, what a call puts is what a longer
-- history puts since then.
abbrev pub PutsOn : Problem → Limits → List Event → List Event → SinkView → SinkView
    → Result Unit SendFault → Type 0
PutsOn p l old new before after answer =
    (began : SinkView) → PutsAll p l old began before → GivesCommands p l new began after answer
