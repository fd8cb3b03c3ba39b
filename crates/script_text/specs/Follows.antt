-- Whether a history follows a script.
use Rattle.std.specs.Prelude.{ℕ, Bool, true, false, not, ◌&&◌, ◌==◌, if◌then◌else◌, List, [], ◌∷◌, length, drop, Option, Some, None, IsTrue}
use Rattle.std.specs.List.{list_any}
use Rattle.tp_spec.specs.declared.event.Cause.{Cause}
use Rattle.tp_spec.specs.declared.event.Cause.TheVariants.{Out, Script, Memory}
use Rattle.tp_spec.specs.declared.event.Event.{Event}
use Rattle.tp_spec.specs.declared.event.Event.TheVariants.{Tick, Take, Halt}
use Rattle.tp_spec.specs.declared.plan.Limits.{Limits}
use Rattle.tp_spec.specs.Machine.{Machine, first, end_of}
use Rattle.tp_spec.specs.Following.{turn_events, is_deed, serves_take, serves_merge}
use Rattle.script_text.specs.declared.script.ScriptLine.{ScriptLine}
use Rattle.script_text.specs.declared.script.Verb.{Verb}
use Rattle.script_text.specs.declared.script.Verb.TheVariants as verbs

-- the id of the first Take among events
abbrev pub taken_id : List Event → Option ℕ
taken_id [] = None
taken_id (Take actor id ∷ rest) = Some id
taken_id (e ∷ rest) = taken_id rest

-- what each actor's last take line took, if anything
abbrev pub nothing : ℕ → Option ℕ
nothing actor = None

-- the same behind a turn with these events: only a take line changes it, for its own actor
abbrev pub held_after : Verb → ℕ → List Event → (ℕ → Option ℕ) → ℕ → Option ℕ
held_after verbs.Take actor events held other =
    if other == actor then taken_id events else held other
held_after verbs.Merge actor events held other = held other
held_after verbs.Look actor events held other = held other

-- no Take, Expand, Publish or Limit
abbrev pub is_idle : List Event → Bool
is_idle events = not (list_any is_deed events)

-- whether a turn serves the merge of what an actor took; where it took nothing, it has no deed
abbrev pub serves_held : Option ℕ → Machine → List Event → Bool
serves_held None end events = is_idle events
serves_held (Some id) end events = serves_merge id end events

-- whether a turn that ends so does what its line says, for an actor that took this
abbrev pub serves : Verb → Option ℕ → Machine → List Event → Bool
serves verbs.Take took end events = serves_take end events
serves verbs.Merge took end events = serves_held took end events
serves verbs.Look took end events = is_idle events

-- nothing, or one Halt
abbrev pub is_end : List Event → Bool
is_end [] = true
is_end (Halt cause ∷ []) = true
is_end _ = false

-- whether a Halt of this cause may come before the script ends
abbrev pub is_early : Cause → Bool
is_early Out = true
is_early Script = false
is_early Memory = true

-- From this state on, with what each actor's last take line took: each line is a turn of its actor
-- with its reading that does what the line says. Before a line the history may end where an
-- outcome stands, or by a Halt that is not the script's; behind the last line, by any Halt or none.
abbrev pub follow : Limits → Machine → (ℕ → Option ℕ) → List ScriptLine → List Event → Bool
follow l m held [] history = is_end history
follow l m held (line ∷ lines) [] = m.over
follow l m held (line ∷ lines) (Halt cause ∷ []) = is_early cause
follow l m held (line ∷ lines) (Tick actor reading ∷ rest) =
    let events = turn_events rest in
    let end = end_of l m (Tick actor reading ∷ events) in
    (actor == line.actor) && (reading == line.reading)
    && serves line.verb (held line.actor) end events
    && follow l end (held_after line.verb line.actor events held) lines
    (drop (length events) rest)
follow l m held (line ∷ lines) (e ∷ rest) = false

-- A history follows a script.
-- This project's own.
pub record Follows (l : Limits) (script : List ScriptLine) (history : List Event) : Type 0 where
  pub follows : IsTrue (follow l first nothing script history)
