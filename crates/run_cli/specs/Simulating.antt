-- What `simulate` gives of a source and a script.
use Rattle.std.specs.Prelude.{◌≡◌, ◌⊎◌, ℕ, List, [], ◌∷◌, ◌++◌, Option, Some, None, Ok, Err, codes, decimal}
use Rattle.tp_spec.specs.declared.event.Cause.TheVariants.{Out, Script, Memory}
use Rattle.tp_spec.specs.declared.event.Event.{Event}
use Rattle.tp_spec.specs.declared.plan.Limits.{Limits}
use Rattle.tp_spec.specs.declared.problem.Problem.{Problem}
use Rattle.tp_spec.specs.Machine.{IsWholeRun}
use Rattle.tp_world.specs.Contents.{FilesView}
use Rattle.tp_world.specs.Loads.{Wanted, AsksFront}
use Rattle.tp_world.specs.Sinks.{SinkView}
use Rattle.tp_world.specs.Views.{Outside}
use Rattle.script_text.specs.Follows.{Follows}
use Rattle.script_text.specs.Scripts.{IsScript}
use Rattle.script_text.specs.declared.script.ScriptFault.{ScriptFault}
use Rattle.script_text.specs.declared.script.ScriptFault.TheVariants.{Line, Holding, Idle, NoMemory}
use Rattle.script_text.specs.declared.script.ScriptLine.{ScriptLine}
use Rattle.serial_runs.specs.Endings.{HasResult, IsHaltedBy}
use Rattle.run_cli.specs.Outcomes.{EndsAs, PrintsHistory, IsBrokenOff, IsHalfDone}
use Rattle.run_cli.specs.Printing.{Prints}
use Rattle.run_cli.specs.Solving.{IsOutOfMemory}
use Rattle.run_cli.specs.Sources.{HoldsProblem, HasNoProblem, source_files}
use Rattle.run_cli.specs.Stopping.{file_of}
use Rattle.run_cli.specs.declared.loading.Role.TheVariants as roles
use Rattle.run_cli.specs.declared.loading.Stop.{Stop}
use Rattle.run_cli.specs.declared.loading.Stop.TheVariants.{Said}
use Rattle.run_cli.specs.declared.loading.Stop.TheVariants as stops
use Rattle.run_cli.specs.declared.words.Source.{Source}

-- the status tells the last event: a result, or that the script ended with none
pub record IsPlayed (history : List Event) (status : ℕ) : Type 0 where
  pub ends : EndsAs history status
  pub ended : HasResult history ⊎ IsHaltedBy Script history

-- a script was played to its end or an outcome, and all that the history prints is put
pub record Plays (p : Problem) (l : Limits) (script : List ScriptLine) (history : List Event)
    (before after : SinkView) (status : ℕ) : Type 0 where
  pub whole : IsWholeRun p l history
  pub follows : Follows l script history
  pub played : IsPlayed history status
  pub printed : PrintsHistory p l history before after

-- a put failed: the run was halted for that, or had ended
pub record IsUnsaidPlay (p : Problem) (l : Limits) (script : List ScriptLine)
    (history : List Event) (before after : SinkView) (status : ℕ) : Type 0 where
  pub follows : Follows l script history
  pub stopped : HasResult history ⊎ (IsHaltedBy Script history ⊎ IsHaltedBy Out history)
  pub broken : IsBrokenOff p l history before after status

-- memory was refused: there is no history, or it follows the script as far as it goes
pub record IsHalfPlayed (p : Problem) (l : Limits) (script : List ScriptLine)
    (history : List Event) (before after : SinkView) (status : ℕ) : Type 0 where
  pub follows : (history ≡ []) ⊎ Follows l script history
  pub stopped : (history ≡ [])
      ⊎ (HasResult history ⊎ (IsHaltedBy Script history ⊎ IsHaltedBy Memory history))
  pub half : IsHalfDone p l history before after status

-- how the play of a script ends
abbrev pub EndsPlay : Problem → Limits → List ScriptLine → List Event → SinkView → SinkView → ℕ
    → Type 0
EndsPlay p l script history before after status =
    Plays p l script history before after status
    ⊎ (IsUnsaidPlay p l script history before after status
    ⊎ IsHalfPlayed p l script history before after status)

-- the file of a script
abbrev pub script_files : List ℕ → List Wanted
script_files script = file_of roles.Script script ∷ []

-- a line that tells the first fault of a script
abbrev pub fault_line : ℕ → List ℕ → Option (List ℕ)
fault_line number fault =
    Some (codes "refused script " ++ decimal number ++ codes " " ++ fault ++ codes "\n")

-- the line of a script's fault; none where memory was refused
abbrev pub script_line : ScriptFault → Option (List ℕ)
script_line (Line number) = fault_line number (codes "Line")
script_line (Holding number) = fault_line number (codes "Holding")
script_line (Idle number) = fault_line number (codes "Idle")
script_line NoMemory = None

-- a text is no script, and the line tells its first fault
pub record RefusesScript (text line : List ℕ) : Type 0 where
  pub fault : ScriptFault
  pub first : IsScript text (Err fault)
  pub line_is : script_line fault ≡ Some line

-- the files of a source and a script are loaded; they are this problem's, and this script's
pub record HoldsScript (source : Source) (script : List ℕ) (p : Problem) (lines : List ScriptLine)
    (before after : FilesView) : Type 0 where
  pub text : List ℕ
  pub holds : HoldsProblem source (script_files script) p (text ∷ []) before after
  pub read : IsScript text (Ok lines)

-- the files are a problem's and no script's
pub record IsMisread (source : Source) (script : List ℕ) (before after : FilesView) (status : ℕ)
    (line : List ℕ) : Type 0 where
  pub problem : Problem
  pub text : List ℕ
  pub holds : HoldsProblem source (script_files script) problem (text ∷ []) before after
  pub refuses : RefusesScript text line
  pub status_is : status ≡ 4

-- why no script is played, with the status and the line of it
abbrev pub HasNoScript : Source → List ℕ → FilesView → FilesView → ℕ → List ℕ → Type 0
HasNoScript source script before after status line =
    HasNoProblem source (script_files script) before after status line
    ⊎ IsMisread source script before after status line

-- why no script is played; where memory was refused, a front of the files was asked for
abbrev pub IsScriptStop : Source → List ℕ → FilesView → FilesView → Stop → Type 0
IsScriptStop source script before after (Said answer) =
    HasNoScript source script before after answer.status answer.line.items
IsScriptStop source script before after stops.NoMemory =
    AsksFront (source_files source ++ script_files script) before after

-- what a refusal of a script says; nothing where memory was refused
abbrev pub IsScriptRefusal : List ℕ → Stop → Type 0
IsScriptRefusal text (Said answer) = (answer.status ≡ 4) × RefusesScript text answer.line.items
IsScriptRefusal text stops.NoMemory = Unit {0}

-- the files are a problem's and a script's, and that is played
pub record IsSimulated (source : Source) (script : List ℕ) (l : Limits) (before after : Outside)
    (status : ℕ) (history : List Event) : Type 0 where
  pub problem : Problem
  pub lines : List ScriptLine
  pub holds : HoldsScript source script problem lines before.files after.files
  pub ends : EndsPlay problem l lines history before.sink after.sink status

-- no script is played, and the line that says why is put
pub record SaysUnplayed (source : Source) (script : List ℕ) (before after : Outside) (status : ℕ) :
    Type 0 where
  pub wanted : ℕ
  pub line : List ℕ
  pub why : HasNoScript source script before.files after.files wanted line
  pub printed : Prints line wanted before.sink after.sink status

-- why no script is played: the line that says it is put, or memory was refused
abbrev pub EndsUnplayed : Source → List ℕ → Outside → Outside → ℕ → Type 0
EndsUnplayed source script before after status =
    SaysUnplayed source script before after status
    ⊎ IsOutOfMemory (source_files source ++ script_files script) before after status

-- What `simulate` gives of a source and a script: the script is played, or there is no history.
abbrev pub EndsSimulate : Source → List ℕ → Limits → Outside → Outside → ℕ → List Event → Type 0
EndsSimulate source script l before after status history =
    IsSimulated source script l before after status history
    ⊎ (EndsUnplayed source script before after status × (history ≡ []))
