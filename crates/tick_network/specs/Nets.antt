-- Simple temporal networks and their solutions.
use Rattle.std.specs.Prelude.{◌*◌, ◌+◌, ◌≡◌, ℕ, ◌-◌, ◌<◌, ◌≤◌, ◌^◌, pos, negsuc, ◌+ℤ◌, ◌≤ℤ◌, List, length, slice_index, All}
use Rattle.tick_network.specs.declared.net.Net.{Net}
use Rattle.tick_network.specs.declared.net.Row.{Row}

-- y - x ≤ w
abbrev pub KeepsRow : (ℕ → ℕ) → Row → Type 0
KeepsRow t r = pos (t r.y) ≤ℤ (pos (t r.x) +ℤ r.w)

-- The assignments of ticks that keep all bounds and rows. What they give beyond the variables says
-- nothing.
-- Dechter, Meiri and Pearl, 'Temporal constraint networks', 1991, section 3.
pub record IsSolution (low high : List ℕ) (rows : List Row) (t : ℕ → ℕ) : Type 0 where
  pub above : (v : ℕ) → v < length low → slice_index low v ≤ t v
  pub below : (v : ℕ) → v < length low → t v ≤ slice_index high v
  pub keeps : All (KeepsRow t) rows

abbrev pub IsSolutionOf : Net → (ℕ → ℕ) → Type 0
IsSolutionOf net t = IsSolution net.low.items net.high.items net.rows.items t

abbrev pub HasNoSolution : Net → Type 0
HasNoSolution net = (t : ℕ → ℕ) → ¬ (IsSolutionOf net t)

-- a tick for each variable, none of them less than a solution's
abbrev pub IsAboveAll : Net → List ℕ → Type 0
IsAboveAll net ticks = (t : ℕ → ℕ) → IsSolutionOf net t
    → (v : ℕ) → v < length net.low.items → t v ≤ slice_index ticks v

-- a tick for each variable: a solution, and no other one is greater at any variable
pub record IsGreatest (net : Net) (ticks : List ℕ) : Type 0 where
  pub count : length ticks ≡ length net.low.items
  pub is : IsSolutionOf net (slice_index ticks)
  pub last : IsAboveAll net ticks

-- a tick for each variable: a solution, and no other one is less at any variable
pub record IsLeast (net : Net) (ticks : List ℕ) : Type 0 where
  pub count : length ticks ≡ length net.low.items
  pub is : IsSolutionOf net (slice_index ticks)
  pub first : (t : ℕ → ℕ) → IsSolutionOf net t
      → (v : ℕ) → v < length net.low.items → slice_index ticks v ≤ t v

abbrev pub row_count : Net → ℕ
row_count net = length net.rows.items

-- one look at each row more often than there are variables
abbrev pub most_steps : Net → ℕ
most_steps net = row_count net * (length net.low.items + 1)

-- both ends are variables, of which there are n
pub record HasEnds (n : ℕ) (r : Row) : Type 0 where
  pub y : r.y < n
  pub x : r.x < n

-- between -2^41 and 2^41
pub record IsSmallRow (r : Row) : Type 0 where
  pub least : negsuc (2 ^ 41 - 1) ≤ℤ r.w
  pub most : r.w ≤ℤ pos (2 ^ 41)

-- (behind the end `slice_index` is 0)
abbrev pub AreSmall : List ℕ → Type 0
AreSmall ticks = (v : ℕ) → slice_index ticks v ≤ 2 ^ 41

-- What the calls ask of a network: a least and a greatest tick for each variable, rows between
-- variables, and nothing past 2^41.
pub record IsNet (net : Net) : Type 0 where
  pub bounds : length net.high.items ≡ length net.low.items
  pub low_small : AreSmall net.low.items
  pub high_small : AreSmall net.high.items
  pub ends : All (HasEnds (length net.low.items)) net.rows.items
  pub weights : All IsSmallRow net.rows.items
