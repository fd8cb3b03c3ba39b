-- The commands, their files and their options: the tables of the command line; and how a number is
-- spelled.
use Rattle.std.specs.Prelude.{ℕ, ◌^◌, Bool, true, false, not, ◌&&◌, ◌||◌, nat_lt, nat_eq, if◌then◌else◌, List, [], ◌∷◌, length, bytes_eq, codes, is_some, Option, Some, None}
use Rattle.std.specs.Char.{is_ascii_digit}
use Rattle.std.specs.List.{list_all}
use Rattle.std.specs.Str.Parse.{digits_value}
use Rattle.run_cli.specs.declared.options.Command.{Command}
use Rattle.run_cli.specs.declared.options.Command.TheVariants.{Solve, Simulate, Validate, Ground, Replay, Summary, Help}
use Rattle.run_cli.specs.declared.options.Numbers.{Numbers}
use Rattle.run_cli.specs.declared.options.Setting.{Setting}
use Rattle.run_cli.specs.declared.options.Setting.TheVariants.{Lead, Actions, Horizon, Nodes, Scale, Script, PlanFile, TraceFile, Seed}

-- all commands
abbrev pub all_commands : List Command
all_commands = Solve ∷ Simulate ∷ Validate ∷ Ground ∷ Replay ∷ Summary ∷ Help ∷ []

abbrev pub command_name : Command → List ℕ
command_name Solve = codes "solve"
command_name Simulate = codes "simulate"
command_name Validate = codes "validate"
command_name Ground = codes "ground"
command_name Replay = codes "replay"
command_name Summary = codes "summary"
command_name Help = codes "help"

-- the least and the greatest number of files of a command
abbrev pub file_bounds : Command → ℕ × ℕ
file_bounds Solve = (1, 2)
file_bounds Simulate = (1, 2)
file_bounds Validate = (1, 2)
file_bounds Ground = (2, 2)
file_bounds Replay = (1, 2)
file_bounds Summary = (0, 0)
file_bounds Help = (0, 0)

-- the options of a command
abbrev pub options_of : Command → List Setting
options_of Solve = Lead ∷ Actions ∷ Horizon ∷ Nodes ∷ Scale ∷ TraceFile ∷ []
options_of Simulate =
    Script ∷ Lead ∷ Actions ∷ Horizon ∷ Nodes ∷ Scale ∷ TraceFile ∷ []
options_of Validate = PlanFile ∷ Actions ∷ Horizon ∷ Scale ∷ []
options_of Ground = Scale ∷ []
options_of Replay = TraceFile ∷ Lead ∷ Actions ∷ Horizon ∷ Nodes ∷ Scale ∷ []
options_of Summary = Seed ∷ []
options_of Help = []

-- the command of this name among some
abbrev pub command_among : List Command → List ℕ → Option Command
command_among [] word = None
command_among (c ∷ rest) word =
    if bytes_eq (command_name c) word then Some c else command_among rest word

abbrev pub command_named : List ℕ → Option Command
command_named word = command_among all_commands word

-- an option: its name, and its numbers where it takes one
pub record Row : Type 0 where
  pub name : List ℕ
  pub numbers : Option Numbers

abbrev pub numbered : List ℕ → ℕ → ℕ → ℕ → Row
numbered name least most default = record {
  name = name;
  numbers = Some (record { least = least; most = most; default = default; scales = false });
}

abbrev pub worded : List ℕ → Row
worded name = record { name = name; numbers = None }

-- the options: the name, the least and the greatest number, and the number where none is given
abbrev pub row_of : Setting → Row
row_of Lead = numbered (codes "lead") 0 1000 0
row_of Actions = numbered (codes "actions") 1 64 64
row_of Horizon = numbered (codes "horizon") 1 (2 ^ 40) (2 ^ 40)
row_of Nodes = numbered (codes "nodes") 1 200000 50000
row_of Scale = record {
  name = codes "scale";
  numbers = Some (record { least = 1; most = 1000; default = 1; scales = true });
}
row_of Script = worded (codes "script")
row_of PlanFile = worded (codes "plan")
row_of TraceFile = worded (codes "trace")
row_of Seed = numbered (codes "seed") 0 9999999999999 0

abbrev pub name_of : Setting → List ℕ
name_of s = (row_of s).name

-- the numbers of an option that takes one
abbrev pub numbers_of : Setting → Option Numbers
numbers_of s = (row_of s).numbers

-- the option of this name among some
abbrev pub option_named : List Setting → List ℕ → Option Setting
option_named [] name = None
option_named (s ∷ rest) name = if bytes_eq (name_of s) name then Some s else option_named rest name

-- 1 to 13 digits, leading zeros allowed
abbrev pub is_number : List ℕ → Bool
is_number text = nat_lt 0 (length text) && nat_lt (length text) 14 && list_all is_ascii_digit text

abbrev pub within : ℕ → ℕ → ℕ → Option ℕ
within low high n = if nat_lt n low then None else if nat_lt high n then None else Some n

abbrev pub is_scale : ℕ → Bool
is_scale n = nat_eq n 1 || nat_eq n 10 || nat_eq n 100 || nat_eq n 1000

-- a number that is one of some numbers: from the least to the greatest, and a scale where only
-- those count
abbrev pub among : Numbers → ℕ → Option ℕ
among numbers n =
    if numbers.scales && not (is_scale n) then None else within numbers.least numbers.most n

-- the number of some numbers that a text spells
abbrev pub number_in : Numbers → List ℕ → Option ℕ
number_in numbers text =
    if is_number text then among numbers (digits_value 10 text) else None

-- whether a command takes so many files
abbrev pub takes : Command → ℕ → Bool
takes command count = is_some (within (file_bounds command).0 (file_bounds command).1 count)
