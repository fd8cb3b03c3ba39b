use Rattle.std.proofs.Common.{◌≡◌, drop}
use Rattle.run_cli.specs.Options.{all_commands, command_among}
use Rattle.run_cli.proofs.options.command_named.Given as goal

abbrev pub invariant-loop-command : goal.invariant-loop-command
invariant-loop-command l = command_among (drop l.command-index all_commands) l.word ≡ command_among all_commands l.word
