use Rattle.std.proofs.Common.{◌≡◌, ◌+◌, ◌++◌, map, drop}
use Rattle.std.specs.Prelude.{string_bytes}
use Rattle.run_cli.specs.Options.{options_of}
use Rattle.run_cli.specs.Arguments.{arguments_from, arguments_of, view_of}
use Rattle.run_cli.proofs.arguments.arguments_of.Given as goal

abbrev pub invariant-loop-word : goal.invariant-loop-word
invariant-loop-word l = record {
  so_far : map view_of l.arguments.items ++ arguments_from (options_of l.fn.command) l.at l.awaited (map string_bytes (drop l.word-index l.words)) ≡ arguments_of (options_of l.fn.command) (map string_bytes l.words);
  place : l.at ≡ l.word-index + 1;
}
