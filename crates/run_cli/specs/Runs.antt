-- How a run ended, and what its clock has to do with its history.
use Rattle.std.specs.Prelude.{◌≡◌, ℕ, List, [], ◌∷◌, ◌++◌}
use Rattle.tp_spec.specs.declared.event.Event.{Event}
use Rattle.tp_world.specs.Views.{ClockView}
use Rattle.open_tree.specs.Turns.{IsTold}

-- The ending of a run: the status, the events of its search, and the clock as it came in and as it
-- comes back.
pub record EndingView : Type 0 where
  pub status : ℕ
  pub history : List Event
  pub began : ClockView
  pub ended : ClockView

-- The clock was read once for each Tick, and the Ticks hold its readings; what it says of its
-- readings before is as it was.
pub record HasReadings (ending : EndingView) : Type 0 where
  pub given : ending.ended.given ≡ ending.began.given
  pub ticks : IsTold ending.began.count ending.ended.count ending.began.last ending.ended.last
      ending.began.given ending.history

-- the clock was begun once, with this rate, and keeps it
pub record IsBegun (rate : ℕ) (ending : EndingView) : Type 0 where
  pub begun : ending.ended.begun ≡ ending.began.begun ++ rate ∷ []
  pub rated : ending.ended.rate ≡ rate

-- there is no history, and the clock is as it came in
pub record IsIdle (ending : EndingView) : Type 0 where
  pub none : ending.history ≡ []
  pub same : ending.ended ≡ ending.began
