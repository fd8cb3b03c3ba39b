use Rattle.std.proofs.Common.{◌≡◌, map, drop}
use Rattle.run_cli.specs.Arguments.{view_of}
use Rattle.run_cli.specs.Orders.{is_given}
use Rattle.run_cli.proofs.words.is_given.Given as goal

abbrev pub invariant-loop-argument : goal.invariant-loop-argument
invariant-loop-argument l = is_given (map view_of (drop l.argument-index l.arguments)) l.setting ≡ is_given (map view_of l.arguments) l.setting
