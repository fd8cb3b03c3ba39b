-- What a run gives: of its words, and of its command.
use Rattle.std.specs.Prelude.{◌≡◌, ◌⊎◌, ℕ, List, [], ◌∷◌, ◌++◌, Result, Ok, Err}
use Rattle.tp_spec.specs.declared.event.Event.{Event}
use Rattle.tp_spec.specs.declared.plan.Limits.{Limits}
use Rattle.tp_spec.specs.declared.problem.Problem.{Problem}
use Rattle.tp_world.specs.Loads.{Wanted}
use Rattle.tp_world.specs.Views.{Outside}
use Rattle.ground_text.specs.Texts.{problem_text}
use Rattle.run_cli.specs.Help.{help_text}
use Rattle.run_cli.specs.Orders.{fault_text}
use Rattle.run_cli.specs.Printing.{Prints, PrintsNothing}
use Rattle.run_cli.specs.Replaying.{IsAnswer as IsTraceAnswered}
use Rattle.run_cli.specs.Runs.{EndingView, IsIdle}
use Rattle.run_cli.specs.Solving.{EndsUnsolved, EndsBefore, IsOutOfMemory}
use Rattle.run_cli.specs.Sources.{HoldsProblem, source_files}
use Rattle.run_cli.specs.Stopping.{file_of}
use Rattle.run_cli.specs.Summing.{EndsSummary}
use Rattle.run_cli.specs.Tracing.{KeepsSolve, KeepsSimulate}
use Rattle.run_cli.specs.Validating.{IsAnswer}
use Rattle.run_cli.specs.declared.words.Order.{Order}
use Rattle.run_cli.specs.declared.words.Order.TheVariants.{Solve, Simulate, Validate, Ground, Replay, Summary, Help}
use Rattle.run_cli.specs.declared.words.Source.{Source}
use Rattle.run_cli.specs.declared.words.Source.TheVariants.{Pddl}
use Rattle.run_cli.specs.declared.loading.Role.TheVariants.{PlanFile, Trace}
use Rattle.run_cli.specs.declared.words.WordFault.{WordFault}

-- A text is put, at this status, or memory was refused; no file is asked for.
pub record EndsUnasked (text : List ℕ) (wanted : ℕ) (before after : Outside) (status : ℕ) :
    Type 0 where
  pub unasked : after.files ≡ before.files
  pub ends : Prints text wanted before.sink after.sink status
      ⊎ PrintsNothing before.sink after.sink status

-- refused words: their line is put, at status 3
abbrev pub EndsRefused : WordFault → Outside → Outside → ℕ → Type 0
EndsRefused fault before after status = EndsUnasked (fault_text fault) 3 before after status

-- `help`: the lines of the commands are put, at status 0
abbrev pub EndsHelp : Outside → Outside → ℕ → Type 0
EndsHelp before after status = EndsUnasked help_text 0 before after status

-- the line of what the files give is put
pub record IsJudged (limits : Limits) (source : Source) (plan_file : Wanted)
    (before after : Outside) (status : ℕ) : Type 0 where
  pub wanted : ℕ
  pub line : List ℕ
  pub answer : IsAnswer limits source plan_file before.files after.files wanted line
  pub printed : Prints line wanted before.sink after.sink status

-- what `validate` gives of a source and a plan file
abbrev pub EndsValidate : Limits → Source → List ℕ → Outside → Outside → ℕ → Type 0
EndsValidate limits source plan before after status =
    IsJudged limits source (file_of PlanFile plan) before after status
    ⊎ IsOutOfMemory (source_files source ++ file_of PlanFile plan ∷ []) before after status

-- the line of what the files of a source and a trace give is put
pub record IsReplayed (limits : Limits) (source : Source) (trace_file : Wanted)
    (before after : Outside) (status : ℕ) : Type 0 where
  pub wanted : ℕ
  pub line : List ℕ
  pub answer : IsTraceAnswered limits source trace_file before.files after.files wanted line
  pub printed : Prints line wanted before.sink after.sink status

-- what `replay` gives of a source and a trace
abbrev pub EndsReplay : Limits → Source → List ℕ → Outside → Outside → ℕ → Type 0
EndsReplay limits source trace before after status =
    IsReplayed limits source (file_of Trace trace) before after status
    ⊎ IsOutOfMemory (source_files source ++ file_of Trace trace ∷ []) before after status

-- the files are a problem's, and its ground text is put, at status 0
pub record IsGrounded (source : Source) (before after : Outside) (status : ℕ) : Type 0 where
  pub problem : Problem
  pub holds : HoldsProblem source [] problem [] before.files after.files
  pub printed : Prints (problem_text problem) 0 before.sink after.sink status

-- what `ground` gives of a domain and a problem
abbrev pub EndsGround : Source → Outside → Outside → ℕ → Type 0
EndsGround source before after status =
    IsGrounded source before after status ⊎ EndsBefore source [] before after status

-- what `summary` gives of a seed; no file is asked for
pub record EndsSummarized (seed : ℕ) (before after : Outside) (status : ℕ) (history : List Event) :
    Type 0 where
  pub unasked : after.files ≡ before.files
  pub ends : EndsSummary seed before.sink after.sink status history

-- What a run gives that waits for nobody: all but `solve`, which ends before its search. Only
-- `simulate` and `summary` have a history.
abbrev pub EndsLocal : Result Order WordFault → Outside → Outside → ℕ → List Event → Type 0
EndsLocal (Err fault) before after status history = EndsRefused fault before after status
EndsLocal (Ok (Solve source limits trace)) before after status history =
    EndsUnsolved source before after status
EndsLocal (Ok (Simulate source script limits trace)) before after status history =
    KeepsSimulate source script limits trace before after status history
EndsLocal (Ok (Validate source plan limits)) before after status history =
    EndsValidate limits source plan before after status
EndsLocal (Ok (Ground domain problem scale)) before after status history =
    EndsGround (Pddl domain problem scale) before after status
EndsLocal (Ok (Replay source trace limits)) before after status history =
    EndsReplay limits source trace before after status
EndsLocal (Ok (Summary seed)) before after status history =
    EndsSummarized seed before after status history
EndsLocal (Ok Help) before after status history = EndsHelp before after status

-- what a run gives: `solve` its search, and all else with the clock as it came in, and but for
-- `simulate` and `summary` with no history
abbrev pub EndsRun : Result Order WordFault → Outside → Outside → EndingView → Type 0
EndsRun (Err fault) before after ending =
    EndsRefused fault before after ending.status × IsIdle ending
EndsRun (Ok (Solve source limits trace)) before after ending =
    KeepsSolve source limits trace before after ending
EndsRun (Ok (Simulate source script limits trace)) before after ending =
    KeepsSimulate source script limits trace before after ending.status ending.history
    × (ending.ended ≡ ending.began)
EndsRun (Ok (Validate source plan limits)) before after ending =
    EndsValidate limits source plan before after ending.status × IsIdle ending
EndsRun (Ok (Ground domain problem scale)) before after ending =
    EndsGround (Pddl domain problem scale) before after ending.status × IsIdle ending
EndsRun (Ok (Replay source trace limits)) before after ending =
    EndsReplay limits source trace before after ending.status × IsIdle ending
EndsRun (Ok (Summary seed)) before after ending =
    EndsSummarized seed before after ending.status ending.history
    × (ending.ended ≡ ending.began)
EndsRun (Ok Help) before after ending = EndsHelp before after ending.status × IsIdle ending
