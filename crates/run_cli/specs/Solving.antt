-- What `solve` gives of a source: how its search ends, or why nothing is searched.
use Rattle.std.specs.Prelude.{◌≡◌, ◌⊎◌, ◌<◌, ℕ, List, [], ◌++◌}
use Rattle.tp_spec.specs.declared.event.Cause.TheVariants.{Out, Memory}
use Rattle.tp_spec.specs.declared.plan.Limits.{Limits}
use Rattle.tp_spec.specs.declared.problem.Problem.{Problem}
use Rattle.tp_spec.specs.Following.{IsBusy}
use Rattle.tp_spec.specs.Machine.{IsWholeRun}
use Rattle.tp_world.specs.Loads.{Wanted, AsksFront}
use Rattle.tp_world.specs.Sinks.{SinkView}
use Rattle.tp_world.specs.Views.{Outside}
use Rattle.serial_runs.specs.Endings.{HasResult, IsHaltedBy}
use Rattle.run_cli.specs.Outcomes.{EndsAs, PrintsHistory, IsBrokenOff, IsHalfDone}
use Rattle.run_cli.specs.Printing.{Prints, PrintsNothing}
use Rattle.run_cli.specs.Runs.{EndingView, HasReadings, IsBegun, IsIdle}
use Rattle.run_cli.specs.Sources.{HoldsProblem, HasNoProblem, source_files}
use Rattle.run_cli.specs.declared.words.Source.{Source}

-- A search of a problem that ends with the result of this status, 0, 1 or 2: its history is a whole
-- run, busy for the one worker, and ends with that result; the clock was begun with its scale.
pub record IsSolution (p : Problem) (l : Limits) (status : ℕ) (ending : EndingView) : Type 0 where
  pub below : status < 3
  pub ends : EndsAs ending.history status
  pub whole : IsWholeRun p l ending.history
  pub busy : IsBusy l 1 ending.history
  pub begun : IsBegun p.scale ending
  pub readings : HasReadings ending

-- the problem is solved, and all that the history prints is put
pub record Solves (p : Problem) (l : Limits) (before after : SinkView) (ending : EndingView) :
    Type 0 where
  pub solution : IsSolution p l ending.status ending
  pub printed : PrintsHistory p l ending.history before after

-- A put failed: the run was halted for that, or has a result.
pub record IsUnsaid (p : Problem) (l : Limits) (before after : SinkView) (ending : EndingView) :
    Type 0 where
  pub begun : IsBegun p.scale ending
  pub readings : HasReadings ending
  pub stopped : HasResult ending.history ⊎ IsHaltedBy Out ending.history
  pub broken : IsBrokenOff p l ending.history before after ending.status

-- Memory was refused in the search, or behind it: there is no history, the run was halted for that,
-- or it has a result.
pub record IsHalfSolved (p : Problem) (l : Limits) (before after : SinkView) (ending : EndingView) :
    Type 0 where
  pub begun : IsBegun p.scale ending
  pub readings : HasReadings ending
  pub stopped : (ending.history ≡ [])
      ⊎ (HasResult ending.history ⊎ IsHaltedBy Memory ending.history)
  pub half : IsHalfDone p l ending.history before after ending.status

-- how a search ends
abbrev pub EndsSearch : Problem → Limits → SinkView → SinkView → EndingView → Type 0
EndsSearch p l before after ending =
    Solves p l before after ending
    ⊎ (IsUnsaid p l before after ending ⊎ IsHalfSolved p l before after ending)

-- the files are a problem's, which is searched
pub record IsSearched (source : Source) (l : Limits) (before after : Outside) (ending : EndingView)
    : Type 0 where
  pub problem : Problem
  pub holds : HoldsProblem source [] problem [] before.files after.files
  pub ends : EndsSearch problem l before.sink after.sink ending

-- there is no problem, and the line that says why is put
pub record SaysWhy (source : Source) (further : List Wanted) (before after : Outside) (status : ℕ) :
    Type 0 where
  pub wanted : ℕ
  pub line : List ℕ
  pub why : HasNoProblem source further before.files after.files wanted line
  pub printed : Prints line wanted before.sink after.sink status

-- memory was refused before the command's work: a front of its files was asked for
pub record IsOutOfMemory (files : List Wanted) (before after : Outside) (status : ℕ) : Type 0 where
  pub asked : AsksFront files before.files after.files
  pub printed : PrintsNothing before.sink after.sink status

-- The work on the problem of a source, with further files, is not begun: the line that says why
-- there is none is put, or memory was refused.
abbrev pub EndsBefore : Source → List Wanted → Outside → Outside → ℕ → Type 0
EndsBefore source further before after status =
    SaysWhy source further before after status
    ⊎ IsOutOfMemory (source_files source ++ further) before after status

-- What `solve` gives of a source: a search, or why nothing is searched; then there is no history,
-- and the clock is as it came in.
abbrev pub EndsSolve : Source → Limits → Outside → Outside → EndingView → Type 0
EndsSolve source l before after ending =
    IsSearched source l before after ending
    ⊎ (EndsBefore source [] before after ending.status × IsIdle ending)

-- the files are a problem's, and nothing is put: 3
pub record IsLeft (source : Source) (before after : Outside) (status : ℕ) : Type 0 where
  pub problem : Problem
  pub holds : HoldsProblem source [] problem [] before.files after.files
  pub status_is : status ≡ 3
  pub unput : after.sink ≡ before.sink

-- what `solve` gives of a source where it may not search
abbrev pub EndsUnsolved : Source → Outside → Outside → ℕ → Type 0
EndsUnsolved source before after status =
    IsLeft source before after status ⊎ EndsBefore source [] before after status
