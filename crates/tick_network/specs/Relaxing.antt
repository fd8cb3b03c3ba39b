-- What a look at rows does to ticks.
use Rattle.std.specs.Prelude.{◌≡◌, ℕ, ◌-◌, ◌<◌, ◌≤◌, ◌^◌, pos, ◌+ℤ◌, ◌≤ℤ◌, ◌<ℤ◌, Bool, true, false, if◌then◌else◌, List, map, length, slice_index, slice_set, All}
use Rattle.tick_network.specs.declared.net.Row.{Row}
use Rattle.tick_network.specs.declared.relax.Change.{Change}
use Rattle.tick_network.specs.declared.relax.Change.TheVariants.{Same, Lowered, Empty}
use Rattle.tick_network.specs.Nets.{KeepsRow}

-- a row as it is, or as it is between mirrored ticks
abbrev pub turned_row : Bool → Row → Row
turned_row mirrored r = if mirrored then record { y = r.x; x = r.y; w = r.w } else r

abbrev pub turned_rows : Bool → List Row → List Row
turned_rows mirrored rows = map (turned_row mirrored) rows

-- a tick as it stands from the far end
abbrev pub mirror : ℕ → ℕ
mirror x = 2 ^ 41 - x

-- in each place (behind the end both are 0)
abbrev pub AreAtLeast : List ℕ → List ℕ → Type 0
AreAtLeast xs ys = (v : ℕ) → slice_index xs v ≤ slice_index ys v

-- an assignment is at or below a list at each of its places
abbrev pub IsAtMost : (ℕ → ℕ) → List ℕ → Type 0
IsAtMost t ys = (v : ℕ) → v < length ys → t v ≤ slice_index ys v

-- one row's y was lowered to n, the greatest that the row allows
pub record LowersTo (r : Row) (low old new : List ℕ) (n : ℕ) : Type 0 where
  pub is : pos n ≡ (pos (slice_index old r.x) +ℤ r.w)
  pub less : n < slice_index old r.y
  pub above : slice_index low r.y ≤ n
  pub set : new ≡ slice_set old r.y n

abbrev pub RelaxesRow : Row → List ℕ → List ℕ → List ℕ → Change → Type 0
RelaxesRow r low old new Same = (new ≡ old) × KeepsRow (slice_index old) r
RelaxesRow r low old new Lowered = (n : ℕ) × LowersTo r low old new n
RelaxesRow r low old new Empty = (pos (slice_index old r.x) +ℤ r.w) <ℤ pos (slice_index low r.y)

-- What looks at the first rows leave: nothing is higher, each y is at most what its row allows by
-- where its x stood before, and solutions at or below the old ticks are at or below the new ones.
pub record LooksLeave (rows passed : List Row) (low old new : List ℕ) : Type 0 where
  pub lower : AreAtLeast new old
  pub above : AreAtLeast low new
  pub seen : All (λ r. pos (slice_index new r.y) ≤ℤ (pos (slice_index old r.x) +ℤ r.w)) passed
  pub solutions : (t : ℕ → ℕ) → All (KeepsRow t) rows → IsAtMost t old → IsAtMost t new

-- some tick is lower
abbrev pub IsLower : List ℕ → List ℕ → Type 0
IsLower new old = (v : ℕ) × (v < length old) × (slice_index new v < slice_index old v)

-- no ticks at or below these and at or above the lowest keep the rows
abbrev pub HasNoneBelow : List Row → List ℕ → List ℕ → Type 0
HasNoneBelow rows low old = (t : ℕ → ℕ) → All (KeepsRow t) rows → IsAtMost t old
    → ((v : ℕ) → v < length old → slice_index low v ≤ t v) → ⊥

-- Of `Lowered` it promises a tick that is lower: without that nothing would bound the looks.
abbrev pub RelaxesAll : List Row → List ℕ → List ℕ → List ℕ → Change → Type 0
RelaxesAll rows low old new Same = (new ≡ old) × All (KeepsRow (slice_index old)) rows
RelaxesAll rows low old new Lowered = LooksLeave rows rows low old new × IsLower new old
RelaxesAll rows low old new Empty = HasNoneBelow rows low old

-- the greatest ticks that keep the rows, at or below the old ones
pub record AreGreatestBelow (rows : List Row) (low old new : List ℕ) : Type 0 where
  pub keeps : All (KeepsRow (slice_index new)) rows
  pub above : AreAtLeast low new
  pub lower : AreAtLeast new old
  pub last : (t : ℕ → ℕ) → All (KeepsRow t) rows → IsAtMost t old → IsAtMost t new

abbrev pub Propagates : List Row → List ℕ → List ℕ → List ℕ → Bool → Type 0
Propagates rows low old new true = AreGreatestBelow rows low old new
Propagates rows low old new false = HasNoneBelow rows low old
