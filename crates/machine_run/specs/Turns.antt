-- The form of a turn: its Tick, settling, at most one deed, and settling again.
use Rattle.std.specs.Prelude.{◌≡◌, ℕ, Bool, true, false, List, [], ◌∷◌, ◌++◌, Option, Some, None, IsTrue}
use Rattle.std.specs.List.{list_all, list_any}
use Rattle.tp_spec.specs.declared.event.Event.{Event}
use Rattle.tp_spec.specs.declared.event.Event.TheVariants.{Tick, Drop, Dispatch, Publish, Limit, Exhaust, Halt}

abbrev pub is_outcome : Event → Bool
is_outcome (Publish actor id plan) = true
is_outcome (Limit actor id made marks) = true
is_outcome Exhaust = true
is_outcome (Halt cause) = true
is_outcome _ = false

-- whether an outcome stands
abbrev pub has_outcome : List Event → Bool
has_outcome history = list_any is_outcome history

-- whether an event may stand where a turn settles
abbrev pub is_settling : Event → Bool
is_settling (Drop id) = true
is_settling (Dispatch act) = true
is_settling Exhaust = true
is_settling _ = false

-- a history grew
pub record Grows (old new : List Event) : Type 0 where
  pub more : List Event
  pub grown : new ≡ old ++ more

-- a history grew by settling alone
pub record Settles (old new : List Event) : Type 0 where
  pub events : List Event
  pub grown : new ≡ old ++ events
  pub settling : IsTrue (list_all is_settling events)

abbrev pub event_list : Option Event → List Event
event_list None = []
event_list (Some e) = e ∷ []

-- A history grew by one turn of an actor: a Tick with this reading, settling, this deed if there is
-- one, and settling again.
pub record IsTurn (old new : List Event) (actor reading : ℕ) (deed : Option Event) : Type 0 where
  pub before : List Event
  pub after : List Event
  pub grown : new ≡ old ++ Tick actor reading ∷ (before ++ (event_list deed ++ after))
  pub first_settling : IsTrue (list_all is_settling before)
  pub last_settling : IsTrue (list_all is_settling after)
