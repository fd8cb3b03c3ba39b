-- Schedules of words as they are kept.
use Rattle.std.specs.Prelude.{ℕ, zero, suc, ◌≡◌, ◌+◌, ◌-◌, ◌*◌, ◌==◌, List, [], ◌∷◌, map, length, slice_index, if◌then◌else◌}
use Rattle.tp_spec.specs.declared.plan.Limits.{Limits}
use Rattle.tp_spec.specs.declared.plan.Mark.{Mark}
use Rattle.tp_spec.specs.declared.plan.Plan.{Plan}
use Rattle.tp_spec.specs.declared.plan.Timed.{Timed}
use Rattle.tp_spec.specs.declared.problem.Problem.{Problem}
use Rattle.tp_spec.specs.Words.{Act, groups, acts_of}
use Rattle.tp_spec.specs.Schedules.{Schedule, IsGreatest, IsLeast, plan_of}
use Rattle.word_rows.specs.Rows.{end_of, open_acts, word_rows}
use Rattle.word_network.specs.declared.schedule.OpenEnd.{OpenEnd}
use Rattle.word_network.specs.declared.schedule.Latest.{Latest}

-- the end that is kept of an action, and 0 where none is
abbrev pub end_in : ℕ → List OpenEnd → ℕ
end_in a [] = 0
end_in a (e ∷ rest) = if e.action == a then e.end else end_in a rest

-- the schedule that is kept so
abbrev pub schedule_of : Latest → Schedule
schedule_of t = record { tick = slice_index t.groups; end = λ a. end_in a t.ends }

-- a tick for each group and an end for each running act, in order of the acts: the greatest
-- schedule of a word
pub record IsLatest (p : Problem) (l : Limits) (now : ℕ) (commits : List Timed) (w : List Mark)
    (t : Latest) : Type 0 where
  pub counted : length t.groups ≡ groups w
  pub running : map (λ e. e.action) t.ends ≡ map (λ a. a.action) (open_acts (acts_of p w))
  pub greatest : IsGreatest p l now commits w (schedule_of t)

-- the plan of a word's least schedule
abbrev pub IsEarliest : Problem → Limits → ℕ → List Timed → List Mark → Plan → Type 0
IsEarliest p l now commits w plan =
    (x : Schedule) × IsLeast p l now commits w x × (plan ≡ plan_of p w x)

-- the ends of running acts by ticks of variables, from a variable on
abbrev pub ends_from : List Act → (ℕ → ℕ) → ℕ → List OpenEnd
ends_from [] t v = []
ends_from (a ∷ running) t v = record { action = a.action; end = t v } ∷ ends_from running t (v + 1)

-- an act by ticks of variables, of which n are groups
abbrev pub timed_by : ℕ → List Act → (ℕ → ℕ) → Act → Timed
timed_by n running t a =
    record {
      action = a.action;
      start = t a.opens;
      length = t (end_of n running a) - t a.opens;
    }

-- the tick of the last of n groups, or 0
abbrev pub last_of : (ℕ → ℕ) → ℕ → ℕ
last_of t zero = 0
last_of t (suc g) = t g

-- (g + s + 1) * (g + 3 s), for g groups and s acts
abbrev pub most_steps : Problem → List Mark → ℕ
most_steps p w =
    (groups w + length (acts_of p w) + 1) * (groups w + 3 * length (acts_of p w))

-- one look at each row of a word's network
abbrev pub least_steps : Problem → List Mark → ℕ
least_steps p w = length (word_rows p w)
