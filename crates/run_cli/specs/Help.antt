-- What `help` prints: a line for each command.
use Rattle.std.specs.Prelude.{ℕ, nat_eq, if◌then◌else◌, List, [], ◌∷◌, ◌++◌, codes, decimal}
use Rattle.run_cli.specs.declared.options.Command.{Command}
use Rattle.run_cli.specs.declared.options.Setting.{Setting}
use Rattle.run_cli.specs.Options.{all_commands, command_name, file_bounds, options_of, name_of}

-- a number of files, or the least and the greatest with a dash between them
abbrev pub files_text : ℕ → ℕ → List ℕ
files_text least most =
    if nat_eq least most then decimal least else decimal least ++ codes "-" ++ decimal most

-- an option, behind a space and two dashes
abbrev pub option_text : Setting → List ℕ
option_text s = codes " --" ++ name_of s

abbrev pub options_text : List Setting → List ℕ
options_text [] = []
options_text (s ∷ rest) = option_text s ++ options_text rest

-- a command, the number of its files, and its options
abbrev pub command_line : Command → List ℕ
command_line command =
    command_name command ++ codes " "
    ++ files_text (file_bounds command).0 (file_bounds command).1
    ++ options_text (options_of command) ++ codes "\n"

abbrev pub command_lines : List Command → List ℕ
command_lines [] = []
command_lines (command ∷ rest) = command_line command ++ command_lines rest

-- the lines of all commands
abbrev pub help_text : List ℕ
help_text = command_lines all_commands
