-- The network of a word, as the code builds it.
use Rattle.std.specs.Prelude.{ℕ, zero, suc, ◌≡◌, ◌^◌, ◌++◌, List, [], ◌∷◌, length, map, max, min, replicate, slice_get, slice_index, slice_set}
use Rattle.tick_network.specs.Nets.{IsNet}
use Rattle.tp_spec.specs.declared.plan.Limits.{Limits}
use Rattle.tp_spec.specs.declared.plan.Mark.{Mark}
use Rattle.tp_spec.specs.declared.plan.Timed.{Timed}
use Rattle.tp_spec.specs.declared.problem.Problem.{Problem}
use Rattle.tp_spec.specs.Words.{Act, groups, acts_of}
use Rattle.tp_spec.specs.Schedules.{acts_by}
use Rattle.word_rows.specs.declared.bound.Bound.{Bound}
use Rattle.word_rows.specs.Laws.{HasRoom}
use Rattle.word_rows.specs.Rows.{by_acts, clock_bounds, commit_bounds, next_bounds, open_acts, timed_bounds, variables, word_exact, word_rows, last_bounds}
use Rattle.word_network.specs.declared.net.WordNet.{WordNet}
use Rattle.word_network.specs.Parts.{ArePartsOf}

-- least ticks, raised by bounds; a tick past all horizons counts as 2^41
abbrev pub raised : List ℕ → List Bound → List ℕ
raised at [] = at
raised at (b ∷ bounds) =
    raised
    (slice_set at b.variable (max (slice_index at b.variable) (min b.tick (2 ^ 41)))) bounds

-- greatest ticks, lowered by bounds
abbrev pub lowered : List ℕ → List Bound → List ℕ
lowered at [] = at
lowered at (b ∷ bounds) =
    lowered (slice_set at b.variable (min (slice_index at b.variable) b.tick)) bounds

-- what a last group asks, behind some timed items and before commitments that are waited for
abbrev pub bounds_at : Problem → ℕ → ℕ → List Timed → List Bound
bounds_at p last timed waiting =
    next_bounds last (slice_get p.timed timed)
    ++ map (λ c. record { variable = last; tick = c.start }) waiting

-- how many acts of each action are among some
abbrev pub seen_in : List Act → ℕ → ℕ
seen_in acts a = length (acts_by a acts)

-- bounds of timed items and commitments, by a word's groups, acts and timed groups
abbrev pub exact_of : Problem → List Timed → ℕ → List Act → List ℕ → List Bound
exact_of p commits n acts timed =
    timed_bounds timed p.timed
    ++ by_acts (commit_bounds n (open_acts acts)) commits (λ a. 0) acts

-- what the last of n groups asks, if there is one
abbrev pub lasts_at : Problem → ℕ → ℕ → List Timed → List Bound
lasts_at p zero timed waiting = []
lasts_at p (suc g) timed waiting = bounds_at p g timed waiting

-- it is a word's network, and the word has room
pub record IsNetOf (p : Problem) (l : Limits) (now : ℕ) (commits : List Timed) (w : List Mark)
    (n : WordNet) : Type 0 where
  pub made : ArePartsOf p w n.parts
  pub room : HasRoom p l commits w
  pub low : n.net.low.items
      ≡ raised (raised (replicate (variables p w) 0) (word_exact p commits w))
      (by_acts (clock_bounds now) commits (λ a. 0) (acts_of p w))
  pub high : n.net.high.items
      ≡ lowered (lowered (replicate (variables p w) l.horizon) (word_exact p commits w))
      (last_bounds p commits w (groups w))
  pub rows : n.net.rows.items ≡ word_rows p w
  pub proper : IsNet n.net
