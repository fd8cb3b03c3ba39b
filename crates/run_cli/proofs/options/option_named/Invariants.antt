use Rattle.std.proofs.Common.{◌≡◌, drop}
use Rattle.run_cli.specs.Options.{options_of, option_named}
use Rattle.run_cli.proofs.options.option_named.Given as goal

abbrev pub invariant-loop-setting : goal.invariant-loop-setting
invariant-loop-setting l = option_named (drop l.setting-index (options_of l.fn.command)) l.name ≡ option_named (options_of l.fn.command) l.name
