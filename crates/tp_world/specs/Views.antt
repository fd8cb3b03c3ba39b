-- The outside of a run, and a clock, as clauses see them.
use Rattle.std.specs.Prelude.{ℕ, List, Option}
use Rattle.tp_world.specs.Contents.{FilesView}
use Rattle.tp_world.specs.Sinks.{SinkView}

-- the files and the sink
pub record Outside : Type 0 where
  pub files : FilesView
  pub sink : SinkView

-- A clock: how often it was read, the last reading, the ticks of a unit of time, its readings from
-- the first one on, where it says them before, and the rates that it was begun with.
pub record ClockView : Type 0 where
  pub count : ℕ
  pub last : ℕ
  pub rate : ℕ
  pub given : Option (List ℕ)
  pub begun : List ℕ
