-- What a reading of a word stands for.
use Rattle.std.specs.Prelude.{◌≡◌, ℕ, ◌≤◌, Bool, true, not, ◌&&◌, ◌||◌, nat_lt, [], length, IsTrue}
use Rattle.std.specs.List.{list_all, range_with_len}
use Rattle.tp_spec.specs.declared.problem.Problem.{Problem}
use Rattle.tp_spec.specs.Lists.{each_pair}
use Rattle.tp_spec.specs.States.{State, holds}
use Rattle.tp_spec.specs.declared.plan.Item.{Item}
use Rattle.tp_spec.specs.Items.{invariants, is_durative}
use Rattle.tp_spec.specs.Words.{Progress, closes, past_group, is_start_of, at_start}
use Rattle.world_state.specs.View.{meaning, IsStateOf}
use Rattle.world_state.specs.Rows.{is_in_row, width, words_for}
use Rattle.world_state.specs.Happenings.{is_item_of, same_item}
use Rattle.node_state.specs.declared.reading.Reading.{Reading}
use Rattle.node_state.specs.Candidates.{IsCandidateRow}

abbrev pub progress_of : Reading → Progress
progress_of r =
    record {
      before = meaning r.before;
      group = r.group.items;
      timed = r.timed;
      running = is_in_row r.running;
    }

-- The group has different items of the problem, what runs is one of its actions, and no more timed
-- items came than it has.
pub record IsInside (p : Problem) (c : Progress) : Type 0 where
  pub items : IsTrue (list_all (is_item_of p) c.group)
  pub different : IsTrue (each_pair (λ i j. not (same_item i j)) c.group)
  pub runs : (a : ℕ) → c.running a ≡ true → IsTrue (nat_lt a (length p.actions))
  pub timed : c.timed ≤ length p.timed

-- A reading of a word of this problem: its state is one of the problem, its row of what runs has a
-- place for each action, and its other row is that of the candidates in its state.
pub record IsReadingOf (p : Problem) (r : Reading) : Type 0 where
  pub state : IsStateOf p r.before
  pub wide : width r.running ≡ words_for (length p.actions)
  pub inside : IsInside p (progress_of r)
  pub candidates : IsCandidateRow p (meaning r.before).fact r.candidates

-- The last group may be closed, and this is the reading with it closed.
pub record IsClosed (p : Problem) (c : Progress) (r : Reading) : Type 0 where
  pub closes : IsTrue (closes p c)
  pub progress : progress_of r ≡ past_group p c
  pub reading : IsReadingOf p r

-- whether the invariants of all actions that run hold in a state
abbrev pub keep_all : Problem → (ℕ → Bool) → State → Bool
keep_all p running s =
    list_all (λ a. not (running a) || list_all (holds s) (invariants p a))
    (range_with_len 0 (length p.actions))

-- whether an item is the start of an action that lasts
abbrev pub begins : Problem → ℕ → Item → Bool
begins p a i = is_start_of a i && is_durative p a

-- The reading of the empty word.
pub record IsStartOf (p : Problem) (r : Reading) : Type 0 where
  pub progress : progress_of r ≡ at_start p
  pub reading : IsReadingOf p r

-- A copy of a reading, with an empty group.
pub record IsCopyOf (old new : Reading) : Type 0 where
  pub before : new.before ≡ old.before
  pub group : new.group.items ≡ []
  pub timed : new.timed ≡ old.timed
  pub running : new.running.words.items ≡ old.running.words.items
  pub candidates : new.candidates.words.items ≡ old.candidates.words.items
