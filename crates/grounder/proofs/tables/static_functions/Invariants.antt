use Rattle.std.proofs.Common.{◌≡◌, map}
use Rattle.std.specs.List.{range_with_len}
use Rattle.grounder.specs.Sources.{source_of}
use Rattle.grounder.specs.Rigid.{is_static_function}
use Rattle.grounder.proofs.tables.static_functions.Given as goal

abbrev pub invariant-loop-number : goal.invariant-loop-number
invariant-loop-number l =
    l.are ≡ map (is_static_function (source_of l.source)) (range_with_len 0 l.number)
