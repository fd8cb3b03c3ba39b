-- What a caller reads of a lock, of a seat and of a value that is held.
use Rattle.std.specs.Prelude.{◌≡◌, ℕ, ◌<◌, List, [], ◌∷◌, length, Some, None}
use Rattle.turn_lock.specs.declared.rule.View.{View}
use Rattle.turn_lock.specs.declared.rule.Stage.TheVariants.{Idle}
use Rattle.turn_lock.specs.declared.turn.Turn.{Turn}
use Rattle.turn_lock.specs.declared.turn.Seat.{Seat}
use Rattle.turn_lock.specs.declared.turn.Held.{Held}
use Rattle.turn_lock.specs.Told.{IsServing}
use Rattle.turn_lock.specs.Turns.{Stretch}

module _ {V E : Type 0} where
  -- the value that the lock was opened with
  abbrev pub opened : Turn V E → V
  opened lock = lock.table.shared.key.value.value

  -- the parts that the lock was opened with
  abbrev pub all_parts : Turn V E → ℕ
  all_parts lock = lock.table.shared.key.parts

  -- what a seat knows
  abbrev pub view : Seat V E → View V E
  view seat = seat.place.me.0

  -- the parts of a seat
  abbrev pub parts_of : Seat V E → ℕ
  parts_of seat = seat.parts

  -- the entries that a seat has seen
  abbrev pub seen : Seat V E → List E
  seen seat = seat.place.me.0.seen

  -- the turns that a seat and the seats joined to it made: a group of stretches for each, its own
  -- first
  abbrev pub made : Seat V E → List (List Stretch)
  made seat = seat.place.me.0.made

  -- the value as it was when the turn began
  abbrev pub entered : Held V E → V
  entered held = held.entered.value

  -- the turns that the seat had made before, as `made` says
  abbrev pub made_before : Held V E → List (List Stretch)
  made_before held = held.place.me.0.made

  -- the parts of the seat that holds the value
  abbrev pub parts_held : Held V E → ℕ
  parts_held held = held.parts

  -- the seat is of this lock
  pub record IsSeatOf (lock : Turn V E) (seat : Seat V E) : Type 0 where
    pub table : seat.place.table_id ≡ lock.table.shared.table_id
    pub opening : (view seat).opened ≡ Some (opened lock)
    pub parts : (view seat).parts ≡ seat.parts
    pub some_parts : 0 < seat.parts
    pub idle : (view seat).stage ≡ Idle
    pub free : seat.place.me.1 ≡ []

  -- the value is held of this lock: its turn has come
  pub record IsHeldOf (entries : V → List E) (same : V → V → Type 0) (lock : Turn V E)
      (held : Held V E) : Type 0 where
    pub table : held.place.table_id ≡ lock.table.shared.table_id
    pub opening : held.place.me.0.opened ≡ Some (opened lock)
    pub parts : held.place.me.0.parts ≡ held.parts
    pub some_parts : 0 < held.parts
    pub serving : IsServing held.place.me.0.stage
    pub slot : held.place.me.1 ≡ (0, None) ∷ []
    pub seen : held.place.me.0.seen ≡ entries (entered held)
    pub count : held.count ≡ length (entries (entered held))
    pub charter : same (opened lock) (entered held)
