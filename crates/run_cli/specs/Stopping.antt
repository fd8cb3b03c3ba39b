-- The files of a command, and why not all of them were loaded.
use Rattle.std.specs.Prelude.{◌≡◌, ◌⊎◌, ℕ, List, ◌++◌, codes, decimal}
use Rattle.tp_world.specs.Contents.{FilesView}
use Rattle.tp_world.specs.Loads.{Wanted, AsksFront, IsTooLongAt, FailsAt}
use Rattle.run_cli.specs.declared.loading.Role.{Role}
use Rattle.run_cli.specs.declared.loading.Role.TheVariants.{Domain, Problem, GroundText, Script, PlanFile, Trace}
use Rattle.run_cli.specs.declared.loading.Stop.{Stop}
use Rattle.run_cli.specs.declared.loading.Stop.TheVariants.{Said, NoMemory}

abbrev pub role_name : Role → List ℕ
role_name Domain = codes "domain"
role_name Problem = codes "problem"
role_name GroundText = codes "ground"
role_name Script = codes "script"
role_name PlanFile = codes "plan"
role_name Trace = codes "trace"

-- the most bytes of a file of a role
abbrev pub most_bytes : Role → ℕ
most_bytes Trace = 67108864
most_bytes _ = 1048576

-- a file of this role, of at most as many bytes as the role allows
abbrev pub file_of : Role → List ℕ → Wanted
file_of role name = record { role = role_name role; name = name; most = most_bytes role }

abbrev pub too_long_line : Wanted → List ℕ
too_long_line file =
    codes "refused " ++ file.role ++ codes " " ++ decimal file.most ++ codes " FileTooLong\n"

abbrev pub failed_line : Wanted → List ℕ
failed_line file = codes "fault " ++ file.role ++ codes "\n"

-- a file is too long, and the line says so
pub record IsTooLong (files : List Wanted) (before after : FilesView) (status : ℕ) (line : List ℕ) :
    Type 0 where
  pub file : Wanted
  pub at : IsTooLongAt files file before after
  pub status_is : status ≡ 4
  pub line_is : line ≡ too_long_line file

-- a load failed, and the line says so
pub record IsUnloaded (files : List Wanted) (before after : FilesView) (status : ℕ) (line : List ℕ)
    : Type 0 where
  pub file : Wanted
  pub at : FailsAt files file before after
  pub status_is : status ≡ 5
  pub line_is : line ≡ failed_line file

-- not all files were loaded
abbrev pub IsStopped : List Wanted → FilesView → FilesView → ℕ → List ℕ → Type 0
IsStopped files before after status line =
    IsTooLong files before after status line ⊎ IsUnloaded files before after status line

-- why not all files were loaded; where memory was refused, a front of them was asked for
abbrev pub IsStop : List Wanted → FilesView → FilesView → Stop → Type 0
IsStop files before after (Said answer) =
    IsStopped files before after answer.status answer.line.items
IsStop files before after NoMemory = AsksFront files before after
