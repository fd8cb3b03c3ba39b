-- The last clock of a word, by ticks of its groups.
use Rattle.std.specs.Prelude.{ℕ, ◌+◌, Option, Some, None}
use Rattle.tp_spec.specs.Words.{Act}

-- the group in which an act starts
abbrev pub opens_of : Option Act → Option ℕ
opens_of None = None
opens_of (Some a) = Some a.opens

-- the tick of a group, and one past the horizon without one
abbrev pub last_by : ℕ → (ℕ → ℕ) → Option ℕ → ℕ
last_by horizon t None = horizon + 1
last_by horizon t (Some g) = t g
