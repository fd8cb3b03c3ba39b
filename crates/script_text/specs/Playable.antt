-- Scripts that may be played: who holds a job at each line.
use Rattle.std.specs.Prelude.{ℕ, Bool, true, false, not, ◌&&◌, ◌==◌, nat_le, if◌then◌else◌, List, [], ◌∷◌, IsTrue}
use Rattle.std.specs.List.{list_all}
use Rattle.script_text.specs.declared.script.ScriptLine.{ScriptLine}
use Rattle.script_text.specs.declared.script.Verb.{Verb}
use Rattle.script_text.specs.declared.script.Verb.TheVariants.{Take, Merge, Look}
use Rattle.script_text.specs.Scripts.{least_actor}

-- Whether a line may come where its actor holds a job or holds none: a take of one that holds
-- none, a merge of one that holds one, and any look.
abbrev pub may_come : Verb → Bool → Bool
may_come Take holds = not holds
may_come Merge holds = holds
may_come Look holds = true

-- which actors hold a job before the first line
abbrev pub nobody : ℕ → Bool
nobody actor = false

-- the same behind a line: it changes that of its own actor alone
abbrev pub holds_behind : Verb → ℕ → (ℕ → Bool) → ℕ → Bool
holds_behind Take actor holds other = if other == actor then true else holds other
holds_behind Merge actor holds other = if other == actor then false else holds other
holds_behind Look actor holds other = holds other

abbrev pub are_in_turn : (ℕ → Bool) → List ScriptLine → Bool
are_in_turn holds [] = true
are_in_turn holds (line ∷ lines) =
    may_come line.verb (holds line.actor)
    && are_in_turn (holds_behind line.verb line.actor holds) lines

-- a worker is 1 to 8, and the dispatcher, 0, only looks
abbrev pub has_actor : ScriptLine → Bool
has_actor line = nat_le (least_actor line.verb) line.actor && nat_le line.actor 8

-- The takes and merges of each actor alternate and begin with a take, whatever the others do.
-- This project's own.
pub record IsPlayable (lines : List ScriptLine) : Type 0 where
  pub in_turn : IsTrue (are_in_turn nobody lines)
  pub actors : IsTrue (list_all has_actor lines)
