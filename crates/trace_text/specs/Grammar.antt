-- The traces as a set of texts: those of the histories whose numbers fit their types.
use Rattle.std.specs.Prelude.{◌≡◌, ℕ, ◌<◌, ◌^◌, Bool, true, ◌&&◌, nat_lt, List, length, IsTrue, Result, Ok, Err}
use Rattle.std.specs.List.{list_all}
use Rattle.tp_spec.specs.declared.event.Event.{Event}
use Rattle.tp_spec.specs.declared.event.Event.TheVariants.{Tick, Drop, Dispatch, Take, Expand, Publish, Limit, Exhaust, Halt}
use Rattle.tp_spec.specs.declared.fault.LineFault.{LineFault}
use Rattle.tp_spec.specs.declared.fault.LineFault.TheVariants.{NoMemory}
use Rattle.tp_spec.specs.declared.plan.Item.{Item}
use Rattle.tp_spec.specs.declared.plan.Item.TheVariants.{TimedAt, End, Start}
use Rattle.tp_spec.specs.declared.plan.Mark.{Mark}
use Rattle.tp_spec.specs.declared.plan.Timed.{Timed}
use Rattle.trace_text.specs.Traces.{trace_text}

-- ids, actors, actions, indices of items and counts of ids and marks have 32 bits
abbrev pub is_narrow : ℕ → Bool
is_narrow n = nat_lt n (2 ^ 32)

-- readings, starts, lengths, ends and the count of events have 64
abbrev pub is_wide : ℕ → Bool
is_wide n = nat_lt n (2 ^ 64)

abbrev pub index_of : Item → ℕ
index_of (TimedAt k) = k
index_of (End a) = a
index_of (Start a) = a

abbrev pub fits_item : Item → Bool
fits_item i = is_narrow (index_of i)

abbrev pub fits_mark : Mark → Bool
fits_mark m = fits_item m.item

abbrev pub fits_act : Timed → Bool
fits_act x = is_narrow x.action && (is_wide x.start && is_wide x.length)

-- whether each number of an event fits its type
unfoldable pub fits_event : Event → Bool
fits_event (Tick actor reading) = is_narrow actor && is_wide reading
fits_event (Take actor id) = is_narrow actor && is_narrow id
fits_event (Expand actor id marks) = (is_narrow actor && is_narrow id) && list_all fits_mark marks
fits_event (Drop id) = is_narrow id
fits_event (Dispatch act) = fits_act act
fits_event (Publish actor id plan) =
    (is_narrow actor && is_narrow id) && (is_wide plan.end && list_all fits_act plan.acts)
fits_event Exhaust = true
fits_event (Limit actor id made marks) =
    (is_narrow actor && is_narrow id) && (is_narrow made && is_narrow marks)
fits_event (Halt cause) = true

-- a history that a trace can hold
pub record IsTraceable (history : List Event) : Type 0 where
  pub few : length history < 2 ^ 64
  pub fits : IsTrue (list_all fits_event history)

-- the text of such a history
abbrev pub IsTrace : List ℕ → Type 0
IsTrace text = (history : List Event) × IsTraceable history × (text ≡ trace_text history)

-- What a reader may answer to the text of a history: that history, or want of memory.
abbrev pub GivesOnly : Result (List Event) LineFault → List Event → Type 0
GivesOnly (Ok events) history = events ≡ history
GivesOnly (Err fault) history = fault ≡ NoMemory
