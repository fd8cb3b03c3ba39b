use Rattle.std.proofs.Common.{◌≡◌, [], map, drop, take}
use Rattle.run_cli.specs.Arguments.{view_of}
use Rattle.run_cli.specs.Orders.{faults_from, first_of}
use Rattle.run_cli.proofs.words.words_fault.Given as goal

abbrev pub invariant-loop-index : goal.invariant-loop-index
invariant-loop-index l = first_of (faults_from (map view_of (take l.index l.arguments)) (map view_of (drop l.index l.arguments))) ≡ first_of (faults_from [] (map view_of l.arguments))
