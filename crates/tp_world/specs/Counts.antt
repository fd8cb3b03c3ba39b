-- Counts of faults and of readings, which never fall and stand still at the greatest `u64`.
use Rattle.std.specs.Prelude.{ℕ, ◌+◌, ◌-◌, ◌^◌, ◌≤◌, min, max}

-- a count after n more: it stands still at the greatest `u64`
abbrev pub count_after : ℕ → ℕ → ℕ
count_after count n = max count (min (count + n) (2 ^ 64 - 1))

-- a count after one more
abbrev pub one_more : ℕ → ℕ
one_more count = count_after count 1

-- the count has risen, which counts as met where it stands at the greatest `u64`
abbrev pub Rose : ℕ → ℕ → Type 0
Rose before now = one_more before ≤ now
