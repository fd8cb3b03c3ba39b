-- Turns, and histories in which every worker does its work.
use Rattle.std.specs.Prelude.{ℕ, suc, Bool, true, false, not, ◌&&◌, ◌||◌, ◌==◌, nat_le, nat_lt, List, [], ◌∷◌, ◌++◌, Option, Some, None, IsTrue, if◌then◌else◌, fold}
use Rattle.std.specs.List.{list_any}
use Rattle.tp_spec.specs.declared.event.Event.{Event}
use Rattle.tp_spec.specs.declared.event.Event.TheVariants.{Tick, Take, Expand, Publish, Limit, Halt}
use Rattle.tp_spec.specs.declared.plan.Limits.{Limits}
use Rattle.tp_spec.specs.Machine.{Machine, first, end_of, is_open}

-- A turn is a Tick and the events behind it up to the next Tick or Halt. These are the events up to
-- there.
abbrev pub turn_events : List Event → List Event
turn_events [] = []
turn_events (Tick actor reading ∷ rest) = []
turn_events (Halt cause ∷ rest) = []
turn_events (e ∷ rest) = e ∷ turn_events rest

-- the id that a deed is on
abbrev pub deed_id : Event → Option ℕ
deed_id (Take actor id) = Some id
deed_id (Expand actor id marks) = Some id
deed_id (Publish actor id plan) = Some id
deed_id (Limit actor id made marks) = Some id
deed_id _ = None

abbrev pub is_deed : Event → Bool
is_deed e = elim (deed_id e) [ None ↦ false | Some id ↦ true ]

abbrev pub is_deed_on : ℕ → Event → Bool
is_deed_on id e = elim (deed_id e) [ None ↦ false | Some other ↦ other == id ]

abbrev pub is_take : Event → Bool
is_take (Take actor id) = true
is_take _ = false

-- whether a turn has a Take, or ends with an outcome, or ends with no open node
abbrev pub serves_take : Machine → List Event → Bool
serves_take end events = list_any is_take events || end.over || not (list_any is_open end.nodes)

-- whether a turn has a deed on this id, or ends with an outcome, or ends with the id not in the
-- frontier
abbrev pub serves_merge : ℕ → Machine → List Event → Bool
serves_merge id end events =
    list_any (is_deed_on id) events || end.over || not (list_any (λ n. n.id == id) end.nodes)

-- what an actor's last turn took, event by event
abbrev pub took_after : ℕ → Option ℕ → Event → Option ℕ
took_after actor took (Tick other reading) = if other == actor then None else took
took_after actor took (Take other id) = if other == actor then Some id else took
took_after actor took _ = took

-- the id of the Take in an actor's last turn, if that has one
abbrev pub last_take : ℕ → List Event → Option ℕ
last_take actor before = fold (took_after actor) None before

abbrev pub rest_after : ℕ → Event → ℕ
rest_after n (Tick actor reading) = suc n
rest_after n e = if is_deed e then 0 else n

-- how many turns came after the last deed, or since the start where there is none
abbrev pub rests_in : List Event → ℕ
rests_in before = fold rest_after 0 before

-- the most turns after a deed in which the dispatcher may look
abbrev pub most_rests : ℕ
most_rests = 10000

-- A turn that a busy history may have, behind these events. The dispatcher, actor 0, makes no deed
-- and looks within its bound. A worker that took a node serves its merge; else it finds an open
-- node and serves a take.
abbrev pub is_busy_turn : Limits → ℕ → List Event → ℕ → ℕ → List Event → Bool
is_busy_turn l workers before actor reading events =
    let found = end_of l first before in
    let end = end_of l found (Tick actor reading ∷ events) in
    nat_le actor workers
    && (if actor == 0
    then not (list_any is_deed events) && nat_lt (rests_in before) most_rests
    else (elim (last_take actor before) [
      | Some id ↦ serves_merge id end events
      | None ↦ list_any is_open found.nodes && serves_take end events
    ]))

abbrev pub are_busy : Limits → ℕ → List Event → List Event → Bool
are_busy l workers before [] = true
are_busy l workers before (Tick actor reading ∷ rest) =
    is_busy_turn l workers before actor reading (turn_events rest)
    && are_busy l workers (before ++ Tick actor reading ∷ []) rest
are_busy l workers before (e ∷ rest) = are_busy l workers (before ++ e ∷ []) rest

-- Every turn of a history does its actor's work.
-- This project's own.
pub record IsBusy (l : Limits) (workers : ℕ) (history : List Event) : Type 0 where
  pub busy : IsTrue (are_busy l workers [] history)
