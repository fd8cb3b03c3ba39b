-- What one put of a text leaves, with the status of the program behind it.
use Rattle.std.specs.Prelude.{◌≡◌, ◌⊎◌, ℕ, List, [], ◌∷◌, ◌++◌}
use Rattle.std.specs.Io.KnownBytes.{Appends, Keeps}
use Rattle.tp_world.specs.Counts.{Rose}
use Rattle.tp_world.specs.Sinks.{SinkView, AppendsFront}

-- all of the text is there, at this status
pub record PrintsAll (text : List ℕ) (wanted : ℕ) (before after : SinkView) (status : ℕ)
    : Type 0 where
  pub status_is : status ≡ wanted
  pub printed : Appends before.held after.held text
  pub unfailed : after.faults ≡ before.faults

-- the put failed, and a front of the text is there: 6
pub record PrintsFront (text : List ℕ) (before after : SinkView) (status : ℕ) : Type 0 where
  pub status_is : status ≡ 6
  pub printed : AppendsFront before.held after.held text
  pub failed : Rose before.faults after.faults

-- the text was put once, and nothing else: all of it at this status, or a front of it at 6
pub record Prints (text : List ℕ) (wanted : ℕ) (before after : SinkView) (status : ℕ) : Type 0 where
  pub once : after.puts ≡ before.puts ++ text ∷ []
  pub ends : PrintsAll text wanted before after status ⊎ PrintsFront text before after status

-- memory was refused, at the latest by the one put: nothing is there, and no put failed: 7
pub record PrintsNothing (before after : SinkView) (status : ℕ) : Type 0 where
  pub status_is : status ≡ 7
  pub kept : Keeps before.held after.held
  pub unfailed : after.faults ≡ before.faults
  pub puts : (after.puts ≡ before.puts)
      ⊎ ((text : List ℕ) × (after.puts ≡ before.puts ++ text ∷ []))
