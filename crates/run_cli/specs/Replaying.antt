-- What `replay` gives for its files: what a trace is judged to be, a refusal, or a failed load;
-- each with its status and its line.
use Rattle.std.specs.Prelude.{◌≡◌, ◌⊎◌, ℕ, List, [], ◌∷◌, ◌++◌, Option, Some, None, codes, decimal}
use Rattle.tp_spec.specs.declared.event.Event.{Event}
use Rattle.tp_spec.specs.declared.fault.LineFault.{LineFault}
use Rattle.tp_spec.specs.declared.fault.LineFault.TheVariants as faults
use Rattle.tp_spec.specs.declared.plan.Limits.{Limits}
use Rattle.tp_spec.specs.declared.problem.Problem.{Problem}
use Rattle.tp_world.specs.Contents.{FilesView}
use Rattle.tp_world.specs.Loads.{Wanted}
use Rattle.line_text.specs.FirstFault.{TellsFault}
use Rattle.trace_text.specs.Grammar.{IsTrace, IsTraceable}
use Rattle.trace_text.specs.Traces.{trace_text}
use Rattle.situated_machine.specs.Replays.{IsReplay}
use Rattle.situated_machine.specs.declared.replayed.Replayed.{Replayed}
use Rattle.situated_machine.specs.declared.replayed.Replayed.TheVariants.{Run, Broken}
use Rattle.situated_machine.specs.declared.replayed.Rule.{Rule}
use Rattle.situated_machine.specs.declared.replayed.Rule.TheVariants as rules
use Rattle.run_cli.specs.Sources.{HoldsProblem, HasNoProblem}
use Rattle.run_cli.specs.declared.words.Source.{Source}

-- the name of a rule
abbrev pub rule_name : Rule → List ℕ
rule_name rules.Outcome = codes "Outcome"
rule_name rules.Turn = codes "Turn"
rule_name rules.Id = codes "Id"
rule_name rules.Least = codes "Least"
rule_name rules.Live = codes "Live"
rule_name rules.Marks = codes "Marks"
rule_name rules.Commit = codes "Commit"
rule_name rules.Plan = codes "Plan"
rule_name rules.Number = codes "Number"
rule_name rules.Early = codes "Early"

-- `replayed` with the number of events, or `broken` with the first event that breaks a rule, from
-- 0, and the name of that rule
abbrev pub replayed_text : Replayed → List ℕ
replayed_text (Run events) = codes "replayed " ++ decimal events ++ codes "\n"
replayed_text (Broken event rule) =
    codes "broken " ++ decimal event ++ codes " " ++ rule_name rule ++ codes "\n"

-- 0 where no rule is broken, else 1
abbrev pub replayed_status : Replayed → ℕ
replayed_status (Run events) = 0
replayed_status (Broken event rule) = 1

-- the line for a trace that is refused; none where memory is
abbrev pub trace_line : LineFault → Option (List ℕ)
trace_line (faults.Line number) =
    Some (codes "refused trace " ++ decimal number ++ codes " Line\n")
trace_line faults.NoMemory = None

-- a text is the trace of a history, and what a replay of that gives on a problem is printed
pub record Replays (p : Problem) (limits : Limits) (bytes : List ℕ) (status : ℕ) (line : List ℕ) :
    Type 0 where
  pub history : List Event
  pub answer : Replayed
  pub traceable : IsTraceable history
  pub text : bytes ≡ trace_text history
  pub judged : IsReplay p limits history answer
  pub status_is : status ≡ replayed_status answer
  pub line_is : line ≡ replayed_text answer

-- a text is the trace of no history, and the line tells its first fault
pub record RefusesTrace (bytes line : List ℕ) : Type 0 where
  pub fault : LineFault
  pub none : ¬ (IsTrace bytes)
  pub first : TellsFault IsTrace fault bytes
  pub line_is : trace_line fault ≡ Some line

-- what a trace gives on a problem
abbrev pub IsTraceAnswer : Problem → Limits → List ℕ → ℕ → List ℕ → Type 0
IsTraceAnswer p limits bytes status line =
    Replays p limits bytes status line ⊎ ((status ≡ 4) × RefusesTrace bytes line)

-- the files of a source and a trace are loaded, and this is what the trace gives
pub record IsTraceJudged (limits : Limits) (source : Source) (trace_file : Wanted)
    (before after : FilesView) (status : ℕ) (line : List ℕ) : Type 0 where
  pub problem : Problem
  pub bytes : List ℕ
  pub holds : HoldsProblem source (trace_file ∷ []) problem (bytes ∷ []) before after
  pub answer : IsTraceAnswer problem limits bytes status line

-- what the files of a source and a trace give, with the status and the line of it
abbrev pub IsAnswer : Limits → Source → Wanted → FilesView → FilesView → ℕ → List ℕ → Type 0
IsAnswer limits source trace_file before after status line =
    HasNoProblem source (trace_file ∷ []) before after status line
    ⊎ IsTraceJudged limits source trace_file before after status line
