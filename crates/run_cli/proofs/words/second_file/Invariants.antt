use Rattle.std.proofs.Common.{◌≡◌, map, length}
use Rattle.run_cli.specs.Arguments.{view_of}
use Rattle.run_cli.specs.Orders.{files_of, second_name}
use Rattle.run_cli.proofs.words.second_file.Given as goal

abbrev pub invariant-loop-rest : goal.invariant-loop-rest
invariant-loop-rest l = second_name (files_of (map view_of l.rest)) ≡ second_name (files_of (map view_of l.arguments))

abbrev pub decreases-loop-rest : goal.decreases-loop-rest
decreases-loop-rest l = length l.rest
