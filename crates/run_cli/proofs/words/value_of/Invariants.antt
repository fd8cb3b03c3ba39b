use Rattle.std.proofs.Common.{◌≡◌, map, drop}
use Rattle.run_cli.specs.Arguments.{view_of}
use Rattle.run_cli.specs.Orders.{value_of}
use Rattle.run_cli.proofs.words.value_of.Given as goal

abbrev pub invariant-loop-argument : goal.invariant-loop-argument
invariant-loop-argument l = value_of (map view_of (drop l.argument-index l.arguments)) l.setting ≡ value_of (map view_of l.arguments) l.setting
