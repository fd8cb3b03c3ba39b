-- Ways up through a list that gives each number the number above it, and what a search by walks
-- keeps.
use Rattle.std.specs.Prelude.{◌≡◌, ℕ, zero, suc, ◌<◌, ◌≤◌, Bool, true, false, ◌||◌, ◌⊎◌, nat_eq, if◌then◌else◌, List, length, get_or, count_by}

-- whether the way up from j comes to k within so many steps, before it comes to 0
abbrev pub comes_to : List ℕ → ℕ → ℕ → ℕ → Bool
comes_to above k zero j = false
comes_to above k (suc n) j =
    if nat_eq j 0 then false
    else nat_eq j k || comes_to above k n (get_or above j 0)

-- whether the way up from a number comes back to it
abbrev pub comes_back : List ℕ → ℕ → Bool
comes_back above k = comes_to above k (length above) (get_or above k 0)

abbrev pub is_met : ℕ → Bool
is_met zero = false
is_met (suc place) = true

-- the numbers that were met, in order, and the place of each number there, from 1; 0 where it was
-- not met
pub record IsOrder (places order : List ℕ) : Type 0 where
  pub number : count_by is_met places ≡ length order
  pub forth : (i : ℕ) → i < length order → get_or places (get_or order i 0) 0 ≡ suc i
  pub back : (v i : ℕ) → get_or places v 0 ≡ suc i → (i < length order) × (get_or order i 0 ≡ v)

-- what a search knows: all above what was met was met, and each number that was met is marked if it
-- comes back to itself
pub record IsKnown (above places order : List ℕ) (marks : List Bool) : Type 0 where
  pub ordered : IsOrder places order
  pub room : length places ≡ length above
  pub marked : length marks ≡ length above
  pub root : get_or places 0 0 ≡ 1
  pub closed : (v i : ℕ) → get_or places v 0 ≡ suc i → 0 < get_or places (get_or above v 0) 0
  pub right : (v i : ℕ) → get_or places v 0 ≡ suc i → get_or marks v false ≡ comes_back above v
  pub unmarked : (v : ℕ) → get_or places v 0 ≡ 0 → get_or marks v false ≡ false

-- a walk from a number that began when the first s numbers were known, and has come up to another
pub record IsWalk (above was places order : List ℕ) (s start at : ℕ) : Type 0 where
  pub ordered : IsOrder places order
  pub root : get_or places 0 0 ≡ 1
  pub begun : 0 < s
  pub grown : s ≤ length order
  pub seen : (at ≡ start) ⊎ (0 < get_or places start 0)
  pub room : length places ≡ length above
  pub inside : at < length above
  pub kept : (v : ℕ) → get_or places v 0 ≤ s → get_or was v 0 ≡ get_or places v 0
  pub fresh : (v : ℕ) → s < get_or places v 0 → get_or was v 0 ≡ 0
  pub closed : (v i : ℕ) → get_or places v 0 ≡ suc i → i < s
      → (0 < get_or places (get_or above v 0) 0) × (get_or places (get_or above v 0) 0 ≤ s)
  pub next : (v i : ℕ) → get_or places v 0 ≡ suc i → s ≤ i → suc i < length order
      → get_or places (get_or above v 0) 0 ≡ suc (suc i)
  pub last : (v i : ℕ) → get_or places v 0 ≡ suc i → s ≤ i → suc i ≡ length order
      → get_or above v 0 ≡ at

-- each number whose place is behind e is marked, where e is a place of the walk itself, and else
-- none is
pub record Marks (places : List ℕ) (s e : ℕ) (old new : List Bool) : Type 0 where
  pub ring : (v i : ℕ) → get_or places v 0 ≡ suc i → s ≤ e → e ≤ i → get_or new v false ≡ true
  pub rest : (v : ℕ) → (s ≤ e → get_or places v 0 ≤ e) → get_or new v false ≡ get_or old v false
