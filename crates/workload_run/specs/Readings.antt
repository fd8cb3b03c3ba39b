-- The readings of a clock that moves with the turns of a search.
use Rattle.std.specs.Prelude.{◌≡◌, ℕ, ◌/◌, ◌^◌, ◌<◌, List, map, slice_index}
use Rattle.std.specs.List.{range_with_len}
use Rattle.tp_spec.specs.declared.event.Event.{Event}
use Rattle.tp_spec.specs.Machine.{readings, ticks}

-- what contracts see of the clock: how often it was read, up to the greatest `u64`, the last
-- reading, the number of ticks of a unit of time, and the rates that it was begun with
pub record TurnState : Type 0 where
  pub count : ℕ
  pub last : ℕ
  pub rate : ℕ
  pub begun : List ℕ

-- the first n readings of such a clock: the k-th from 0 is k / 1000
abbrev pub first_readings : ℕ → List ℕ
first_readings n = map (λ k. k / 1000) (range_with_len 0 n)

-- as many as a clock can count
unfoldable pub turn_readings : List ℕ
turn_readings = first_readings (2 ^ 64)

-- the k-th turn of a history, from 0, reads k / 1000
abbrev pub ReadsByTurns : List Event → Type 0
ReadsByTurns history = (k : ℕ) → k < ticks history → slice_index (readings history) k ≡ k / 1000
