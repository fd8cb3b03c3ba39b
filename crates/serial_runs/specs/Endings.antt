-- How the history of a serial run ends, and what it has to do with what could be put.
use Rattle.std.specs.Prelude.{◌≡◌, ◌⊎◌, Bool, true, false, List, [], ◌∷◌, ◌++◌, Result, Ok, Err}
use Rattle.tp_spec.specs.declared.event.Cause.{Cause}
use Rattle.tp_spec.specs.declared.event.Cause.TheVariants.{Memory, Out, Script}
use Rattle.tp_spec.specs.declared.event.Event.{Event}
use Rattle.tp_spec.specs.declared.event.Event.TheVariants.{Publish, Limit, Exhaust, Halt}
use Rattle.tp_world.specs.declared.sink.SendFault.{SendFault}
use Rattle.tp_world.specs.declared.sink.SendFault.TheVariants.{Failed, NoMemory}

-- whether an event is a search's result: a plan, that the search is exhausted, or the limit
abbrev pub is_result : Event → Bool
is_result (Publish actor id plan) = true
is_result Exhaust = true
is_result (Limit actor id made marks) = true
is_result _ = false

-- the last event is a result
pub record HasResult (history : List Event) : Type 0 where
  pub front : List Event
  pub last : Event
  pub is : history ≡ front ++ last ∷ []
  pub result : is_result last ≡ true

-- the run was halted, for this cause
pub record IsHaltedBy (cause : Cause) (history : List Event) : Type 0 where
  pub front : List Event
  pub is : history ≡ front ++ Halt cause ∷ []

-- Where all commands could be put the history ends with a result or is halted for want of memory;
-- where a put failed, with a result or halted for that; where memory was refused for a command,
-- with a result or halted for want of memory.
abbrev pub Ends : List Event → Result Unit SendFault → Type 0
Ends history (Ok done) = HasResult history ⊎ IsHaltedBy Memory history
Ends history (Err Failed) = HasResult history ⊎ IsHaltedBy Out history
Ends history (Err NoMemory) = HasResult history ⊎ IsHaltedBy Memory history

-- The same of a script's run, which is halted where the script ends and no outcome stands.
abbrev pub EndsScript : List Event → Result Unit SendFault → Type 0
EndsScript history (Ok done) =
    HasResult history ⊎ (IsHaltedBy Memory history ⊎ IsHaltedBy Script history)
EndsScript history (Err Failed) = HasResult history ⊎ IsHaltedBy Out history
EndsScript history (Err NoMemory) = HasResult history ⊎ IsHaltedBy Memory history
