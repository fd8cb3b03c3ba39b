use Rattle.std.proofs.Common.{◌≡◌, ◌++◌, drop}
use Rattle.run_cli.specs.Help.{options_text}
use Rattle.run_cli.proofs.help.push_options.Given as goal

abbrev pub invariant-loop-setting : goal.invariant-loop-setting
invariant-loop-setting l = l.text.items ++ options_text (drop l.setting-index l.settings) ≡ l.fn.text.items ++ options_text l.settings
