-- What a clock gives that tells its readings before.
use Rattle.std.specs.Prelude.{◌≡◌, ℕ, ◌+◌, ◌-◌, ◌^◌, ◌<◌, min, List, length, slice_index}

-- the reading after k earlier ones: the k-th of the list from 0, past its end the last one, 0 where
-- it is empty; of a list of more than 2^64 readings only so many are given
abbrev pub reading_at : List ℕ → ℕ → ℕ
reading_at readings k = slice_index readings (min k (min (length readings) (2 ^ 64) - 1))

-- these are the next readings of a clock that tells its readings and was read `count` times
abbrev pub AreNext : List ℕ → ℕ → List ℕ → Type 0
AreNext readings count taken =
    (k : ℕ) → k < length taken → slice_index taken k ≡ reading_at readings (count + k)

-- a clock that reads a list: its readings, how often it was read, the last reading, the number of
-- ticks of a unit of time, and the rates that it was begun with
pub record ClockState : Type 0 where
  pub readings : List ℕ
  pub count : ℕ
  pub last : ℕ
  pub rate : ℕ
  pub begun : List ℕ
