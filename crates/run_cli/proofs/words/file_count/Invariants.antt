use Rattle.std.proofs.Common.{◌≡◌, ◌+◌, ◌≤◌, map, drop, length}
use Rattle.run_cli.specs.Arguments.{view_of}
use Rattle.run_cli.specs.Orders.{files_of}
use Rattle.run_cli.proofs.words.file_count.Given as goal

abbrev pub invariant-loop-argument : goal.invariant-loop-argument
invariant-loop-argument l = record {
  so_far : l.count + length (files_of (map view_of (drop l.argument-index l.arguments))) ≡ length (files_of (map view_of l.arguments));
  few : l.count ≤ l.argument-index;
}
