-- Marks and ranks that were found.
use Rattle.std.specs.Prelude.{◌≡◌, ℕ, Bool, not, ◌&&◌, List, ◌++◌, length, map}
use Rattle.std.specs.List.{filter, list_all, range_with_len}
use Rattle.tp_spec.specs.declared.plan.Item.{Item}
use Rattle.tp_spec.specs.declared.problem.Problem.{Problem}
use Rattle.tp_spec.specs.declared.plan.Mark.{Mark}
use Rattle.tp_spec.specs.States.{holds}
use Rattle.tp_spec.specs.Words.{Progress, may_join, with_item, read_mark}
use Rattle.tp_spec.specs.Machine.{unmet_goals}
use Rattle.node_state.specs.declared.judge.Found.{Found}
use Rattle.node_state.specs.Growths.{mark_of, marks_by}

-- how many goal parts do not hold after a group with one item more
abbrev pub unmet_with : Problem → Progress → Item → ℕ
unmet_with p c i = unmet_goals p (with_item c i)

-- The marks of those of some items that may join came in, in order, each with its count of unmet
-- goal parts.
pub record Grew (p : Problem) (c : Progress) (fresh : Bool) (old new : Found) (items : List Item)
    : Type 0 where
  pub marks : new.marks.items
      ≡ old.marks.items ++ map (mark_of fresh) (filter (may_join p c) items)
  pub ranks : new.ranks.items
      ≡ old.ranks.items ++ map (unmet_with p c) (filter (may_join p c) items)

-- how many goal parts do not hold after a group that a mark joins or opens
abbrev pub unmet_behind : Problem → Progress → Mark → ℕ
unmet_behind p c m = unmet_goals p (read_mark p c m)

-- The marks that may come next came in, the fresh ones or the others.
pub record TookMarks (p : Problem) (c : Progress) (fresh : Bool) (old new : Found) : Type 0 where
  pub marks : new.marks.items ≡ old.marks.items ++ marks_by p c fresh
  pub ranks : new.ranks.items ≡ old.ranks.items ++ map (unmet_behind p c) (marks_by p c fresh)

-- whether nothing runs before the last group, and each goal part holds there
abbrev pub ends_in_goal : Problem → Progress → Bool
ends_in_goal p c =
    list_all (λ a. not (c.running a)) (range_with_len 0 (length p.actions))
    && list_all (holds c.before) p.goal
