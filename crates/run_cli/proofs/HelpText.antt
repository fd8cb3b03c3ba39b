-- What `help` prints, word for word.
use Rattle.std.proofs.Common.{◌≡◌, ℕ, List, [], ◌++◌, ap, codes, arith}
use Rattle.std.proofs.lemmas.Fmt.{decimal_digit}
use Rattle.run_cli.specs.declared.options.Command.{Command}
use Rattle.run_cli.specs.declared.options.Command.TheVariants.{Solve, Simulate, Validate, Ground, Replay, Summary, Help}
use Rattle.run_cli.specs.Help.{command_line, files_text, options_text, help_text}
use Rattle.run_cli.specs.Options.{command_name, options_of}

-- the line of a command round the spelt number of its files
abbrev line_round : Command → List ℕ → List ℕ
line_round command files = command_name command ++ codes " " ++ files ++ options_text (options_of command) ++ codes "\n"

one_or_two : files_text 1 2 ≡ codes "1-2"
one_or_two = λ i. decimal_digit 1 (omega arith) i ++ codes "-" ++ decimal_digit 2 (omega arith) i

solve_line : command_line Solve ≡ codes "solve 1-2 --lead --actions --horizon --nodes --scale --trace\n"
solve_line = ap (line_round Solve) one_or_two

simulate_line : command_line Simulate ≡ codes "simulate 1-2 --script --lead --actions --horizon --nodes --scale --trace\n"
simulate_line = ap (line_round Simulate) one_or_two

validate_line : command_line Validate ≡ codes "validate 1-2 --plan --actions --horizon --scale\n"
validate_line = ap (line_round Validate) one_or_two

ground_line : command_line Ground ≡ codes "ground 2 --scale\n"
ground_line = ap (line_round Ground) (decimal_digit 2 (omega arith))

replay_line : command_line Replay ≡ codes "replay 1-2 --trace --lead --actions --horizon --nodes --scale\n"
replay_line = ap (line_round Replay) one_or_two

summary_line : command_line Summary ≡ codes "summary 0 --seed\n"
summary_line = ap (line_round Summary) (decimal_digit 0 (omega arith))

help_line : command_line Help ≡ codes "help 0\n"
help_line = ap (line_round Help) (decimal_digit 0 (omega arith))

shown : help_text ≡ codes "solve 1-2 --lead --actions --horizon --nodes --scale --trace\nsimulate 1-2 --script --lead --actions --horizon --nodes --scale --trace\nvalidate 1-2 --plan --actions --horizon --scale\nground 2 --scale\nreplay 1-2 --trace --lead --actions --horizon --nodes --scale\nsummary 0 --seed\nhelp 0\n"
shown = λ i. solve_line i ++ (simulate_line i ++ (validate_line i ++ (ground_line i ++ (replay_line i ++ (summary_line i ++ (help_line i ++ []))))))
