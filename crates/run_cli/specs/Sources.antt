-- What the files of a source, and further files behind them, give: a problem, or why there is none.
use Rattle.std.specs.Prelude.{◌≡◌, ◌⊎◌, ◌≤◌, ℕ, List, [], ◌∷◌, ◌++◌, length, Some}
use Rattle.tp_spec.specs.declared.problem.Problem.{Problem}
use Rattle.tp_spec.specs.WellFormed.{IsWellFormed}
use Rattle.pddl_tokens.specs.Numbers.{IsScale}
use Rattle.problem_files.specs.Answers.{IsPddlProblem, IsPddlFaultOf}
use Rattle.problem_files.specs.Lines.{fault_line}
use Rattle.problem_files.specs.declared.fault.PddlFileFault.{PddlFileFault}
use Rattle.tp_world.specs.Contents.{FilesView}
use Rattle.tp_world.specs.Loads.{Wanted, AreLoaded, AsksFront}
use Rattle.run_cli.specs.Grounds.{IsTextOf, RefusesGround}
use Rattle.run_cli.specs.Stopping.{IsStopped, file_of}
use Rattle.run_cli.specs.declared.loading.Role.TheVariants as roles
use Rattle.run_cli.specs.declared.loading.SourceTexts.{SourceTexts}
use Rattle.run_cli.specs.declared.loading.SourceTexts.TheVariants as texts
use Rattle.run_cli.specs.declared.loading.Stop.{Stop}
use Rattle.run_cli.specs.declared.loading.Stop.TheVariants.{Said, NoMemory}
use Rattle.run_cli.specs.declared.words.Source.{Source}
use Rattle.run_cli.specs.declared.words.Source.TheVariants.{GroundText, Pddl}

-- a scale of a domain and a problem is 1, 10, 100 or 1000
abbrev pub IsScaled : Source → Type 0
IsScaled (GroundText name) = Unit {0}
IsScaled (Pddl domain problem scale) = IsScale scale

-- the files of a source, in their order
abbrev pub source_files : Source → List Wanted
source_files (GroundText name) = file_of roles.GroundText name ∷ []
source_files (Pddl domain problem scale) =
    file_of roles.Domain domain ∷ file_of roles.Problem problem ∷ []

-- the texts of a source's files are this problem's
abbrev pub ReadsAs : Source → List (List ℕ) → Problem → Type 0
ReadsAs (GroundText name) (text ∷ []) p = IsTextOf text p
ReadsAs (Pddl domain_name problem_name scale) (domain ∷ problem ∷ []) p =
    IsPddlProblem domain problem scale p
ReadsAs _ _ p = ⊥

-- the texts of a domain and a problem have a fault, and the line tells the first one
pub record RefusesPddl (domain problem : List ℕ) (scale : ℕ) (line : List ℕ) : Type 0 where
  pub fault : PddlFileFault
  pub first : IsPddlFaultOf domain problem scale fault
  pub line_is : fault_line fault ≡ Some line

-- the texts of a source's files are no problem's, and the line tells the first fault
abbrev pub RefusesSource : Source → List (List ℕ) → List ℕ → Type 0
RefusesSource (GroundText name) (text ∷ []) line = RefusesGround text line
RefusesSource (Pddl domain_name problem_name scale) (domain ∷ problem ∷ []) line =
    RefusesPddl domain problem scale line
RefusesSource _ _ line = ⊥

-- The files of a source and further files are loaded, the further ones with these bytes, and the
-- source's are this problem's.
pub record HoldsProblem (source : Source) (further : List Wanted) (p : Problem)
    (rest : List (List ℕ)) (before after : FilesView) : Type 0 where
  pub texts : List (List ℕ)
  pub loaded : AreLoaded (source_files source ++ further) (texts ++ rest) before after
  pub read : ReadsAs source texts p
  pub formed : IsWellFormed p

-- the files of a source and further files are loaded, and the source is refused
pub record IsRefused (source : Source) (further : List Wanted) (before after : FilesView)
    (status : ℕ) (line : List ℕ) : Type 0 where
  pub texts : List (List ℕ)
  pub rest : List (List ℕ)
  pub loaded : AreLoaded (source_files source ++ further) (texts ++ rest) before after
  pub refuses : RefusesSource source texts line
  pub status_is : status ≡ 4

-- why there is no problem, with the status and the line of it
abbrev pub HasNoProblem : Source → List Wanted → FilesView → FilesView → ℕ → List ℕ → Type 0
HasNoProblem source further before after status line =
    IsStopped (source_files source ++ further) before after status line
    ⊎ IsRefused source further before after status line

-- why there is no problem; where memory was refused, a front of the files was asked for
abbrev pub IsSourceStop : Source → List Wanted → FilesView → FilesView → Stop → Type 0
IsSourceStop source further before after (Said answer) =
    HasNoProblem source further before after answer.status answer.line.items
IsSourceStop source further before after NoMemory =
    AsksFront (source_files source ++ further) before after

-- the texts that are loaded of a source
abbrev pub texts_of : SourceTexts → List (List ℕ)
texts_of (texts.GroundText text) = text.items ∷ []
texts_of (texts.Pddl domain problem scale) = domain.items ∷ problem.items ∷ []

-- texts of a source's kind and scale, no longer than files may be
abbrev pub AreTextsOf : Source → SourceTexts → Type 0
AreTextsOf (GroundText name) (texts.GroundText text) = length text.items ≤ 1048576
AreTextsOf (Pddl domain_name problem_name scale) (texts.Pddl domain problem given) =
    (length domain.items ≤ 1048576) × (length problem.items ≤ 1048576) × (given ≡ scale)
AreTextsOf _ _ = ⊥

-- what a refusal of a text says; nothing where memory was refused
abbrev pub IsGroundRefusal : List ℕ → Stop → Type 0
IsGroundRefusal text (Said answer) = (answer.status ≡ 4) × RefusesGround text answer.line.items
IsGroundRefusal text NoMemory = Unit {0}

abbrev pub IsPddlRefusal : List ℕ → List ℕ → ℕ → Stop → Type 0
IsPddlRefusal domain problem scale (Said answer) =
    (answer.status ≡ 4) × RefusesPddl domain problem scale answer.line.items
IsPddlRefusal domain problem scale NoMemory = Unit {0}

abbrev pub IsRefusal : Source → List (List ℕ) → Stop → Type 0
IsRefusal source texts (Said answer) =
    (answer.status ≡ 4) × RefusesSource source texts answer.line.items
IsRefusal source texts NoMemory = Unit {0}
