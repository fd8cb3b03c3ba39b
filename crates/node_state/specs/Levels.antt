-- Levels of a word: where its groups begin.
use Rattle.std.specs.Prelude.{◌≡◌, ℕ, ◌≤◌, Bool, ◌&&◌, nat_le, List, [], length, slice_get, take}
use Rattle.std.specs.List.{AllByRecursion}
use Rattle.tp_spec.specs.declared.plan.Mark.{Mark}
use Rattle.tp_spec.specs.declared.problem.Problem.{Problem}
use Rattle.tp_spec.specs.Lists.{some_and}
use Rattle.tp_spec.specs.Words.{Progress, past_group, progress}
use Rattle.world_state.specs.Rows.{is_in_row}
use Rattle.world_state.specs.View.{meaning}
use Rattle.node_state.specs.declared.levels.Level.{Level}
use Rattle.node_state.specs.Readings.{progress_of, IsReadingOf}

-- the progress at the beginning of a level's group
abbrev pub opened_of : Level → Progress
opened_of l =
    record {
      before = meaning l.reading.before;
      group = [];
      timed = l.timed;
      running = is_in_row l.reading.running;
    }

-- A level of a word: it begins where the marks before it were read and their last group closed.
pub record IsLevel (p : Problem) (word : List Mark) (l : Level) : Type 0 where
  pub within : l.start ≤ length word
  pub timed : l.timed ≤ length p.timed
  pub at : opened_of l ≡ past_group p (progress p (take l.start word))
  pub reading : IsReadingOf p l.reading

abbrev pub AreLevels : Problem → List Mark → List Level → Type 0
AreLevels p word levels = AllByRecursion (IsLevel p word) levels

-- a level of a word, whose reading has come so far
pub record IsReadTo (p : Problem) (word : List Mark) (n : ℕ) (l : Level) : Type 0 where
  pub level : IsLevel p word l
  pub progress : progress_of l.reading ≡ progress p (take n word)

-- whether a word has a fresh mark at an index
abbrev pub is_fresh_at : List Mark → ℕ → Bool
is_fresh_at word n = some_and (slice_get word n) (λ m. m.fresh)

-- whether a level begins no later than a number, and a group of a word begins there
abbrev pub fits : List Mark → ℕ → Level → Bool
fits word n l = nat_le l.start n && is_fresh_at word l.start

-- what a walker keeps: its judge is of the problem, and its levels are those of its word
pub record IsWalkerOf (p judge : Problem) (word : List Mark) (levels : List Level) : Type 0 where
  pub judges : judge ≡ p
  pub kept : AreLevels p word levels

-- two words have so many marks in common at their fronts
pub record AreAlike (a b : List Mark) (n : ℕ) : Type 0 where
  pub within : n ≤ length b
  pub same : take n a ≡ take n b
