-- How a history ends, the status of the program for it, and what is put of it.
use Rattle.std.specs.Prelude.{◌≡◌, ◌≤◌, ◌⊎◌, ℕ, Bool, true, false, List, [], ◌∷◌, ◌++◌, length, take, Result, Ok, Err}
use Rattle.std.specs.Io.KnownBytes.{Appends, Keeps}
use Rattle.tp_spec.specs.declared.event.Cause.TheVariants.{Script}
use Rattle.tp_spec.specs.declared.event.Event.{Event}
use Rattle.tp_spec.specs.declared.event.Event.TheVariants.{Tick, Publish, Limit, Exhaust, Halt}
use Rattle.tp_spec.specs.declared.plan.Limits.{Limits}
use Rattle.tp_spec.specs.declared.problem.Problem.{Problem}
use Rattle.tp_spec.specs.Machine.{IsWholeRun}
use Rattle.tp_spec.specs.Texts.{result_text, out_text}
use Rattle.tp_world.specs.Counts.{Rose}
use Rattle.tp_world.specs.Sinks.{SinkView}
use Rattle.tp_world.specs.declared.sink.SendFault.{SendFault}
use Rattle.tp_world.specs.declared.sink.SendFault.TheVariants.{Failed, NoMemory}
use Rattle.dispatcher.specs.Sending.{command_lines, commands}
use Rattle.serial_runs.specs.Commands.{committed}
use Rattle.run_cli.specs.Printing.{Prints}

-- whether an event ends a run with a result: a plan, that the search is exhausted, the limit, or
-- that the script ended
abbrev pub is_end : Event → Bool
is_end (Publish actor id plan) = true
is_end Exhaust = true
is_end (Limit actor id made marks) = true
is_end (Halt Script) = true
is_end _ = false

-- the status for such an event: 0 for a plan, 1 where the search is exhausted, 2 at the limit, and
-- 8 where the script ended
abbrev pub status_of : Event → ℕ
status_of (Publish actor id plan) = 0
status_of Exhaust = 1
status_of (Limit actor id made marks) = 2
status_of _ = 8

-- the last event is a result of this status
pub record EndsAs (history : List Event) (status : ℕ) : Type 0 where
  pub front : List Event
  pub last : Event
  pub is : history ≡ front ++ last ∷ []
  pub ended : is_end last ≡ true
  pub gives : status ≡ status_of last

-- the last event is no result
abbrev pub HasNoEnd : List Event → Type 0
HasNoEnd history =
    (front : List Event) (last : Event) → history ≡ front ++ last ∷ [] → is_end last ≡ false

-- the result of a history is put, at the status of its last event
pub record PutsEnd (p : Problem) (history : List Event) (before after : SinkView) (status : ℕ) :
    Type 0 where
  pub wanted : ℕ
  pub ends : EndsAs history wanted
  pub printed : Prints (result_text p history) wanted before after status

-- nothing of the result is there, since memory was refused or the history ends with none: 7
pub record WithholdsEnd (p : Problem) (history : List Event) (before after : SinkView) (status : ℕ)
    : Type 0 where
  pub status_is : status ≡ 7
  pub kept : Keeps before.held after.held
  pub unfailed : after.faults ≡ before.faults
  pub puts : (after.puts ≡ before.puts)
      ⊎ (after.puts ≡ before.puts ++ result_text p history ∷ [])

-- what comes behind a run's commands: the result, or nothing where one of them was refused
abbrev pub GivesEnd : Problem → List Event → Result Unit SendFault → SinkView → SinkView → ℕ
    → Type 0
GivesEnd p history (Ok done) before after status =
    PutsEnd p history before after status ⊎ WithholdsEnd p history before after status
GivesEnd p history (Err Failed) before after status = (status ≡ 6) × (after ≡ before)
GivesEnd p history (Err NoMemory) before after status = (status ≡ 7) × (after ≡ before)

-- what is put of a history: each command line, and then the result
abbrev pub lines_of : Problem → Limits → List Event → List (List ℕ)
lines_of p l history = command_lines p (committed l history) ++ result_text p history ∷ []

-- all that a history prints was put, each command line and the result in a put of its own
pub record PrintsHistory (p : Problem) (l : Limits) (history : List Event)
    (before after : SinkView) : Type 0 where
  pub puts : after.puts ≡ before.puts ++ lines_of p l history
  pub printed : Appends before.held after.held (out_text p history)
  pub unfailed : after.faults ≡ before.faults

-- A front of what a history prints was put. Before each Tick all command lines of what stands
-- before it had gone out, so those of all turns before the last one are there.
pub record PrintsFront (p : Problem) (l : Limits) (history : List Event)
    (before after : SinkView) : Type 0 where
  pub count : ℕ
  pub puts : after.puts ≡ before.puts ++ take count (lines_of p l history)
  pub bytes : ℕ
  pub printed : Appends before.held after.held (take bytes (out_text p history))
  pub enough : (front rest : List Event) (actor reading : ℕ)
      → history ≡ front ++ Tick actor reading ∷ rest
      → length (commands p (committed l front)) ≤ bytes

-- A put failed, and nothing was put behind it: 6. The history is a whole run that ends with an
-- outcome of the search or the script, or was halted for this.
pub record IsBrokenOff (p : Problem) (l : Limits) (history : List Event) (before after : SinkView)
    (status : ℕ) : Type 0 where
  pub status_is : status ≡ 6
  pub whole : IsWholeRun p l history
  pub front : PrintsFront p l history before after
  pub failed : Rose before.faults after.faults

-- Memory was refused, and nothing was put behind that: 7. The history is empty, or a whole run.
pub record IsHalfDone (p : Problem) (l : Limits) (history : List Event) (before after : SinkView)
    (status : ℕ) : Type 0 where
  pub status_is : status ≡ 7
  pub run : (history ≡ []) ⊎ IsWholeRun p l history
  pub front : PrintsFront p l history before after
  pub unfailed : after.faults ≡ before.faults
