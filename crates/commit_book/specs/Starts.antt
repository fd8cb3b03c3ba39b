-- Starts among the marks of a word, and the acts that they begin.
use Rattle.std.specs.Prelude.{◌≡◌, ℕ, ◌+◌, ◌-◌, ◌==◌, nat_lt, List, [], ◌∷◌, Option, Some, None, count_by, if◌then◌else◌, slice_get, take, drop}
use Rattle.tp_spec.specs.declared.plan.Item.{Item}
use Rattle.tp_spec.specs.declared.plan.Item.TheVariants.{TimedAt, End, Start}
use Rattle.tp_spec.specs.declared.plan.Mark.{Mark}
use Rattle.tp_spec.specs.declared.plan.Timed.{Timed}
use Rattle.tp_spec.specs.declared.problem.Problem.{Problem}
use Rattle.tp_spec.specs.Items.{is_durative}
use Rattle.tp_spec.specs.Machine.{candidate}
use Rattle.tp_spec.specs.Words.{Act, groups, acts_of, is_start_of, is_end_of}
use Rattle.commit_book.specs.declared.rule.Place.{Place}

-- how many starts of an action a word has
abbrev pub starts_by : ℕ → List Mark → ℕ
starts_by a w = count_by (λ m. is_start_of a m.item) w

-- how many commitments an action has
abbrev pub commits_by : ℕ → List Timed → ℕ
commits_by a commits = count_by (λ c. c.action == a) commits

-- the action of an item that starts one and is no commitment behind a word
abbrev pub free_action : List Mark → List Timed → Item → Option ℕ
free_action before commits (TimedAt k) = None
free_action before commits (End a) = None
free_action before commits (Start a) =
    if nat_lt (starts_by a before) (commits_by a commits) then None else Some a

-- the group of the first end of an action, where n groups were opened before
abbrev pub closing_from : ℕ → ℕ → List Mark → Option ℕ
closing_from n a [] = None
closing_from n a (m ∷ w) =
    let opened = if m.fresh then n + 1 else n in
    if is_end_of a m.item then Some (opened - 1) else closing_from opened a w

-- the act that starts at a place of a word
abbrev pub started : Problem → List Mark → Place → Act
started p w at = record {
  action = at.action;
  opens = at.group;
  closes = if is_durative p at.action
      then closing_from (groups (take (at.mark + 1) w)) at.action (drop (at.mark + 1) w)
      else Some at.group;
}

-- the place of a start that is no commitment while all before it are commitments
pub record IsFree (w : List Mark) (commits : List Timed) (found : Place) : Type 0 where
  pub mark : Mark
  pub at : slice_get w found.mark ≡ Some mark
  pub free : free_action (take found.mark w) commits mark.item ≡ Some found.action
  pub within : found.group ≡ groups (take (found.mark + 1) w) - 1
  pub before : (p : Problem) → candidate [] commits (acts_of p (take found.mark w)) ≡ None
