-- What `validate` gives for its files: a verdict, a refusal, or a failed load; each with its status
-- and its line.
use Rattle.std.specs.Prelude.{◌≡◌, ◌⊎◌, ℕ, List, [], ◌∷◌, Some, Ok, Err}
use Rattle.tp_spec.specs.declared.plan.Limits.{Limits}
use Rattle.tp_spec.specs.declared.plan.Plan.{Plan}
use Rattle.tp_spec.specs.declared.problem.Problem.{Problem}
use Rattle.tp_world.specs.Contents.{FilesView}
use Rattle.tp_world.specs.Loads.{Wanted}
use Rattle.plan_text.specs.Files.{IsReading}
use Rattle.plan_text.specs.declared.fault.PlanFault.{PlanFault}
use Rattle.plan_validator.specs.Verdicts.{IsVerdict}
use Rattle.plan_validator.specs.declared.verdict.Verdict.{Verdict}
use Rattle.plan_validator.specs.declared.verdict.Verdict.TheVariants.{Valid}
use Rattle.run_cli.specs.Sources.{HoldsProblem, HasNoProblem}
use Rattle.run_cli.specs.VerdictTexts.{verdict_text, plan_line}
use Rattle.run_cli.specs.declared.words.Source.{Source}

-- 0 where a plan is valid, else 1
abbrev pub verdict_status : Verdict → ℕ
verdict_status Valid = 0
verdict_status _ = 1

-- a plan file is read as a plan of a problem, and the verdict on it is printed
pub record Judges (p : Problem) (limits : Limits) (bytes : List ℕ) (status : ℕ) (line : List ℕ) :
    Type 0 where
  pub plan : Plan
  pub verdict : Verdict
  pub reading : IsReading p bytes (Ok plan)
  pub judged : IsVerdict p limits plan verdict
  pub status_is : status ≡ verdict_status verdict
  pub line_is : line ≡ verdict_text verdict

-- a plan file is no plan of a problem
pub record RefusesPlan (p : Problem) (bytes line : List ℕ) : Type 0 where
  pub fault : PlanFault
  pub reading : IsReading p bytes (Err fault)
  pub line_is : plan_line fault ≡ Some line

-- what a plan file gives of a problem
abbrev pub IsPlanAnswer : Problem → Limits → List ℕ → ℕ → List ℕ → Type 0
IsPlanAnswer p limits bytes status line =
    Judges p limits bytes status line ⊎ ((status ≡ 4) × RefusesPlan p bytes line)

-- the files of a source and a plan file are loaded, and this is what the plan file gives
pub record IsPlanJudged (limits : Limits) (source : Source) (plan_file : Wanted)
    (before after : FilesView) (status : ℕ) (line : List ℕ) : Type 0 where
  pub problem : Problem
  pub bytes : List ℕ
  pub holds : HoldsProblem source (plan_file ∷ []) problem (bytes ∷ []) before after
  pub answer : IsPlanAnswer problem limits bytes status line

-- what the files of a source and a plan file give, with the status and the line of it
abbrev pub IsAnswer : Limits → Source → Wanted → FilesView → FilesView → ℕ → List ℕ → Type 0
IsAnswer limits source plan_file before after status line =
    HasNoProblem source (plan_file ∷ []) before after status line
    ⊎ IsPlanJudged limits source plan_file before after status line
