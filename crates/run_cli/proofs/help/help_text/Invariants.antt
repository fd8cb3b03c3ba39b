use Rattle.std.proofs.Common.{◌≡◌, ◌++◌, drop}
use Rattle.run_cli.specs.Help.{command_lines, help_text}
use Rattle.run_cli.specs.Options.{all_commands}
use Rattle.run_cli.proofs.help.help_text.Given as goal

abbrev pub invariant-loop-command : goal.invariant-loop-command
invariant-loop-command l = l.text.items ++ command_lines (drop l.command-index all_commands) ≡ help_text
