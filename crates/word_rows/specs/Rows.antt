-- The simple temporal network of a word: a variable for each group, then one for the end of each
-- act that runs after the word.
-- After Dechter, Meiri and Pearl, 'Temporal constraint networks', 1991.
use Rattle.std.specs.Prelude.{ℕ, zero, suc, ◌+◌, ◌-◌, ◌≤◌, pos, negsuc, ◌-ℤ◌, not, ◌==◌, List, [], ◌∷◌, ◌++◌, length, map, Option, Some, None, if◌then◌else◌, slice_get, is_some}
use Rattle.std.specs.List.{filter, flat_map, AllByRecursion as Each}
use Rattle.tick_network.specs.declared.net.Row.{Row}
use Rattle.word_rows.specs.declared.bound.Bound.{Bound}
use Rattle.tick_network.specs.Nets.{KeepsRow}
use Rattle.tp_spec.specs.declared.plan.Limits.{Limits}
use Rattle.tp_spec.specs.declared.plan.Mark.{Mark}
use Rattle.tp_spec.specs.declared.plan.Timed.{Timed}
use Rattle.tp_spec.specs.declared.problem.Kind.{Kind}
use Rattle.tp_spec.specs.declared.problem.Kind.TheVariants.{Instant, Durative}
use Rattle.tp_spec.specs.declared.problem.Problem.{Problem}
use Rattle.tp_spec.specs.declared.problem.TimedItem.{TimedItem}
use Rattle.tp_spec.specs.Words.{Act, groups, acts_of, timed_of}
use Rattle.tp_spec.specs.Schedules.{commits_by, awaited}

-- the acts that run after a word
abbrev pub open_acts : List Act → List Act
open_acts acts = filter (λ a. not (is_some a.closes)) acts

-- where an action's act stands among them
abbrev pub place : ℕ → List Act → ℕ
place a [] = 0
place a (x ∷ xs) = if x.action == a then 0 else suc (place a xs)

-- the variable of an act's end, where n groups come first
abbrev pub end_of : ℕ → List Act → Act → ℕ
end_of n running a = elim a.closes [ Some g ↦ g | None ↦ n + place a.action running ]

abbrev pub least_of : Kind → ℕ
least_of Instant = 0
least_of (Durative least most) = least

abbrev pub most_of : Kind → ℕ
most_of Instant = 0
most_of (Durative least most) = most

abbrev pub least_length : Problem → ℕ → ℕ
least_length p a = elim (slice_get p.actions a) [ None ↦ 0 | Some x ↦ least_of x.kind ]

abbrev pub most_length : Problem → ℕ → ℕ
most_length p a = elim (slice_get p.actions a) [ None ↦ 0 | Some x ↦ most_of x.kind ]

-- each of the first groups stands before the next one; the last pair first
abbrev pub rise_rows : ℕ → List Row
rise_rows zero = []
rise_rows (suc g) = record { y = g; x = suc g; w = negsuc 0 } ∷ rise_rows g

-- a running act ends at the last group or later
abbrev pub late_rows : ℕ → ℕ → Option ℕ → List Row
late_rows n end None = record { y = n - 1; x = end; w = pos 0 } ∷ []
late_rows n end (Some g) = []

abbrev pub length_rows : Problem → ℕ → List Act → Act → List Row
length_rows p n running a =
    record { y = end_of n running a; x = a.opens; w = pos (most_length p a.action) }
    ∷ record { y = a.opens; x = end_of n running a; w = pos 0 -ℤ pos (least_length p a.action) }
    ∷ late_rows n (end_of n running a) a.closes

-- all rows of a word
abbrev pub word_rows : Problem → List Mark → List Row
word_rows p w =
    rise_rows (groups w - 1)
    ++ flat_map (length_rows p (groups w) (open_acts (acts_of p w))) (acts_of p w)

-- timed items stand at their ticks
abbrev pub timed_bounds : List ℕ → List TimedItem → List Bound
timed_bounds [] items = []
timed_bounds (g ∷ gs) [] = []
timed_bounds (g ∷ gs) (i ∷ items) =
    record { variable = g; tick = i.tick } ∷ timed_bounds gs items

-- a committed act stands where its commitment says
abbrev pub commit_bounds : ℕ → List Act → Act → Option Timed → List Bound
commit_bounds n running a None = []
commit_bounds n running a (Some c) =
    record { variable = a.opens; tick = c.start }
    ∷ record { variable = end_of n running a; tick = c.start + c.length }
    ∷ []

-- every other one starts at the clock or later
abbrev pub clock_bounds : ℕ → Act → Option Timed → List Bound
clock_bounds now a None = record { variable = a.opens; tick = now } ∷ []
clock_bounds now a (Some c) = []

-- how many acts of each action were seen, with one more
abbrev pub seen_more : ℕ → (ℕ → ℕ) → ℕ → ℕ
seen_more a seen b = if a == b then suc (seen b) else seen b

-- what each act asks, with its commitment
abbrev pub by_acts : (Act → Option Timed → List Bound) → List Timed → (ℕ → ℕ) → List Act
    → List Bound
by_acts f commits seen [] = []
by_acts f commits seen (a ∷ acts) =
    f a (slice_get (commits_by a.action commits) (seen a.action))
    ++ by_acts f commits (seen_more a.action seen) acts

-- the bounds that are both least and greatest ticks: timed items and commitments
abbrev pub word_exact : Problem → List Timed → List Mark → List Bound
word_exact p commits w =
    timed_bounds (timed_of w) p.timed
    ++ by_acts (commit_bounds (groups w) (open_acts (acts_of p w))) commits (λ a. 0) (acts_of p w)

-- the least ticks
abbrev pub word_lows : Problem → ℕ → List Timed → List Mark → List Bound
word_lows p now commits w =
    word_exact p commits w ++ by_acts (clock_bounds now) commits (λ a. 0) (acts_of p w)

-- the last group stands before the first timed item that is not in the word ..
abbrev pub next_bounds : ℕ → Option TimedItem → List Bound
next_bounds g None = []
next_bounds g (Some i) = record { variable = g; tick = i.tick - 1 } ∷ []

-- .. and no later than commitments that are not in the word
abbrev pub last_bounds : Problem → List Timed → List Mark → ℕ → List Bound
last_bounds p commits w zero = []
last_bounds p commits w (suc g) =
    next_bounds g (slice_get p.timed (length (timed_of w)))
    ++ map (λ c. record { variable = g; tick = c.start }) (awaited (acts_of p w) commits)

-- nothing stands behind the horizon
abbrev pub horizon_bounds : ℕ → ℕ → List Bound
horizon_bounds horizon zero = []
horizon_bounds horizon (suc v) =
    record { variable = v; tick = horizon } ∷ horizon_bounds horizon v

-- how many variables a word has
abbrev pub variables : Problem → List Mark → ℕ
variables p w = groups w + length (open_acts (acts_of p w))

-- the greatest ticks
abbrev pub word_highs : Problem → Limits → List Timed → List Mark → List Bound
word_highs p l commits w =
    horizon_bounds l.horizon (variables p w)
    ++ (word_exact p commits w ++ last_bounds p commits w (groups w))

-- ticks of the variables that keep all of it
pub record KeepsWord (p : Problem) (l : Limits) (now : ℕ) (commits : List Timed) (w : List Mark)
    (t : ℕ → ℕ) : Type 0 where
  pub lows : Each (λ b. b.tick ≤ t b.variable) (word_lows p now commits w)
  pub highs : Each (λ b. t b.variable ≤ b.tick) (word_highs p l commits w)
  pub rows : Each (KeepsRow t) (word_rows p w)
