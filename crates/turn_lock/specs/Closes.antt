-- What a lock gives back when it is closed.
use Rattle.std.specs.Prelude.{List, Option, Some, None, length}
use mathlib.Core.List.{IsPrefix}
use Rattle.turn_lock.specs.declared.rule.View.{View}
use Rattle.turn_lock.specs.Turns.{Covers}

module _ {V E : Type 0} (entries : V → List E) (same : V → V → Type 0) (opened : V)
    (v : View V E) where
  -- a value under the charter that the lock was opened with, whose entries begin with what the seat
  -- has seen and are, behind those at the opening, the turns made
  pub record Closes (value : V) : Type 0 where
    pub longer : IsPrefix v.seen (entries value)
    pub charter : same opened value
    pub turns : Covers (length (entries opened)) (length (entries value)) v.made

  -- so of what is found in the slot
  abbrev pub ClosesSlot : Option V → Type 0
  ClosesSlot None = ⊥
  ClosesSlot (Some value) = Closes value
