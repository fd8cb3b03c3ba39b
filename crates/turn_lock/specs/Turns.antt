-- The turns of seats, as stretches of positions in a list.
use Rattle.std.specs.Prelude.{◌≡◌, ℕ, ◌+◌, ◌≤◌, List, [], ◌∷◌, ◌++◌, nat_le, nat_lt, ◌&&◌, if◌then◌else◌}

-- a stretch: the positions from its first number up to below its second
abbrev pub Stretch : Type 0
Stretch = ℕ × ℕ

-- how many stretches of a group a position stands in
abbrev pub stands : ℕ → List Stretch → ℕ
stands x [] = 0
stands x (t ∷ ts) = (if nat_le t.0 x && nat_lt x t.1 then 1 else 0) + stands x ts

-- how many stretches of all groups a position stands in
abbrev pub stands_in : ℕ → List (List Stretch) → ℕ
stands_in x [] = 0
stands_in x (g ∷ gs) = stands x g + stands_in x gs

-- the stretches follow each other: none begins before the end of the one before it, and the last
-- ends by `end`
abbrev pub Follow : ℕ → ℕ → List Stretch → Type 0
Follow from end [] = from ≤ end
Follow from end (t ∷ ts) = (from ≤ t.0) × (t.0 ≤ t.1) × Follow t.1 end ts

-- so in each group
abbrev pub FollowEach : ℕ → List (List Stretch) → Type 0
FollowEach end [] = Unit {0}
FollowEach end (g ∷ gs) = Follow 0 end g × FollowEach end gs

-- 1 for a position from `from` up to below `end`, otherwise 0
abbrev pub once : ℕ → ℕ → ℕ → ℕ
once from end x = if nat_le from x && nat_lt x end then 1 else 0

-- the groups with one turn more in the first
abbrev pub with_turn : List (List Stretch) → ℕ → ℕ → List (List Stretch)
with_turn [] from end = ((from, end) ∷ []) ∷ []
with_turn (g ∷ gs) from end = (g ++ (from, end) ∷ []) ∷ gs

-- each position from `from` up to below `end` stands in exactly one stretch of one group, no other
-- in any, and each group's stretches follow each other
pub record Covers (from end : ℕ) (made : List (List Stretch)) : Type 0 where
  pub once_each : (x : ℕ) → stands_in x made ≡ once from end x
  pub in_order : FollowEach end made
