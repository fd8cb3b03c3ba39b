-- The commitments of a run, and the commit rule on a word.
use Rattle.std.specs.Prelude.{◌≡◌, ℕ, ◌+◌, ◌≤◌, ◌-◌, not, ◌||◌, ◌==◌, nat_lt, List, [], Some, IsTrue, slice_get, take}
use Rattle.std.specs.List.{list_all}
use Rattle.tp_spec.specs.declared.plan.Item.TheVariants.{Start}
use Rattle.tp_spec.specs.declared.plan.Limits.{Limits}
use Rattle.tp_spec.specs.declared.plan.Mark.{Mark}
use Rattle.tp_spec.specs.declared.plan.Timed.{Timed}
use Rattle.tp_spec.specs.declared.problem.Problem.{Problem}
use Rattle.tp_spec.specs.Machine.{candidate}
use Rattle.tp_spec.specs.Schedules.{Schedule, timed_act}
use Rattle.tp_spec.specs.Words.{Act, groups, acts_of}
use Rattle.commit_book.specs.declared.rule.Place.{Place}

-- an act starts later than each commitment of its action
abbrev pub IsLater : List Timed → Timed → Type 0
IsLater commits act =
    IsTrue (list_all (λ c. not (c.action == act.action) || nat_lt c.start act.start) commits)

-- the place of a word's first start that is no commitment: the start stands at this mark, and opens
-- the candidate's group, in which the mark lies
pub record IsNextStart (p : Problem) (w : List Mark) (commits : List Timed) (found : Place) : Type 0
  where
    pub next : Act
    pub is_next : candidate [] commits (acts_of p w) ≡ Some next
    pub action : found.action ≡ next.action
    pub group : found.group ≡ next.opens
    pub mark : Mark
    pub at : slice_get w found.mark ≡ Some mark
    pub starts : mark.item ≡ Start found.action
    pub within : found.group ≡ groups (take (found.mark + 1) w) - 1

-- The commit rule on a word and its greatest schedule: the act of the first start that is no
-- commitment, where its tick is at most the clock plus the lead.
pub record IsUrgent (p : Problem) (l : Limits) (now : ℕ) (commits : List Timed) (w : List Mark)
    (x : Schedule) (act : Timed) : Type 0 where
  pub next : Act
  pub is_next : candidate [] commits (acts_of p w) ≡ Some next
  pub soon : x.tick next.opens ≤ now + l.lead
  pub is : act ≡ timed_act x next
