-- Numbers drawn from a seed by a linear congruential generator of 64 bits, of which the upper 31
-- bits are used. Its multiplier and its increment are those of Knuth's MMIX.
use Rattle.std.specs.Prelude.{ℕ, ◌+◌, ◌*◌, ◌/◌, ◌%◌, ◌^◌, List, [], ◌∷◌}

-- the state behind a state
unfoldable pub next_state : ℕ → ℕ
next_state x = (x * 6364136223846793005 + 1442695040888963407) % 2 ^ 64

-- the number below a limit that a state gives
unfoldable pub number_of : ℕ → ℕ → ℕ
number_of limit x = (x / 2 ^ 33) % limit

-- The number that is drawn next behind a state.
abbrev pub draw : ℕ → ℕ → ℕ
draw limit x = number_of limit (next_state x)

-- the state behind a draw for each member of a list
abbrev pub state_after : {A : Type 0} → List A → ℕ → ℕ
state_after [] x = x
state_after (one ∷ more) x = state_after more (next_state x)
