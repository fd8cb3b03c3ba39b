use Rattle.std.proofs.Common.{◌≡◌, map, drop}
use Rattle.run_cli.specs.Arguments.{view_of}
use Rattle.run_cli.specs.Orders.{files_of, first_name}
use Rattle.run_cli.proofs.words.first_file.Given as goal

abbrev pub invariant-loop-argument : goal.invariant-loop-argument
invariant-loop-argument l =
    first_name (files_of (map view_of (drop l.argument-index l.arguments))) ≡ first_name (files_of (map view_of l.arguments))
