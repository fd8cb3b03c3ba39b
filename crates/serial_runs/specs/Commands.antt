-- What a serial run puts while it goes on: the command lines of its commitments.
use Rattle.std.specs.Prelude.{◌≡◌, ◌≤◌, ℕ, List, ◌∷◌, ◌++◌, length, take, Result, Ok, Err}
use Rattle.std.specs.Io.KnownBytes.{Appends}
use Rattle.std.specs.List.{flat_map}
use Rattle.tp_spec.specs.declared.event.Event.{Event}
use Rattle.tp_spec.specs.declared.event.Event.TheVariants.{Tick}
use Rattle.tp_spec.specs.declared.plan.Limits.{Limits}
use Rattle.tp_spec.specs.declared.plan.Timed.{Timed}
use Rattle.tp_spec.specs.declared.problem.Problem.{Problem}
use Rattle.tp_spec.specs.Machine.{state_of}
use Rattle.tp_spec.specs.Texts.{command_of}
use Rattle.tp_world.specs.Counts.{Rose}
use Rattle.tp_world.specs.Sinks.{SinkView}
use Rattle.tp_world.specs.declared.sink.SendFault.{SendFault}
use Rattle.tp_world.specs.declared.sink.SendFault.TheVariants.{Failed, NoMemory}
use Rattle.dispatcher.specs.Sending.{command_lines, commands}

-- the commitments behind a history
abbrev pub committed : Limits → List Event → List Timed
committed l history = (state_of l history).commits

-- each command line of a history was put whole, in one put, in order
pub record PutsAll (p : Problem) (l : Limits) (history : List Event) (before after : SinkView) :
    Type 0 where
  pub puts : after.puts ≡ before.puts ++ command_lines p (committed l history)
  pub held : Appends before.held after.held (commands p (committed l history))
  pub unfailed : after.faults ≡ before.faults

-- A front of the command lines of a history was put. Before each Tick all lines of what stands
-- before it had gone out, so those of all turns before the last one are there.
pub record PutsFront (p : Problem) (l : Limits) (history : List Event) (before after : SinkView) :
    Type 0 where
  pub count : ℕ
  pub puts : after.puts ≡ before.puts ++ take count (command_lines p (committed l history))
  pub bytes : ℕ
  pub held : Appends before.held after.held (take bytes (commands p (committed l history)))
  pub enough : (front rest : List Event) (actor reading : ℕ)
      → history ≡ front ++ Tick actor reading ∷ rest
      → length (commands p (committed l front)) ≤ bytes

-- a put failed, and nothing was put behind it
pub record PutsUntil (p : Problem) (l : Limits) (history : List Event) (before after : SinkView) :
    Type 0 where
  pub front : PutsFront p l history before after
  pub failed : Rose before.faults after.faults

-- memory was refused, and nothing was put behind that
pub record PutsSome (p : Problem) (l : Limits) (history : List Event) (before after : SinkView) :
    Type 0 where
  pub front : PutsFront p l history before after
  pub unfailed : after.faults ≡ before.faults

-- what the sink got of a history's commands
abbrev pub GivesCommands : Problem → Limits → List Event → SinkView → SinkView
    → Result Unit SendFault → Type 0
GivesCommands p l history before after (Ok done) = PutsAll p l history before after
GivesCommands p l history before after (Err Failed) = PutsUntil p l history before after
GivesCommands p l history before after (Err NoMemory) = PutsSome p l history before after

-- The commands that a history prints are the lines of the commitments behind it, in order.
abbrev pub CommandsAreCommitted : Type 0
CommandsAreCommitted = (p : Problem) (l : Limits) (history : List Event)
    → flat_map (command_of p) history ≡ commands p (committed l history)
