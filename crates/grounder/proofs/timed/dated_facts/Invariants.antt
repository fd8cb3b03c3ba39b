use Rattle.std.proofs.Common.{◌≡◌, take}
use Rattle.grounder.specs.Sources.{source_of}
use Rattle.grounder.specs.Objects.{numbers_where}
use Rattle.grounder.specs.Grounded.{is_dated}
use Rattle.grounder.proofs.timed.dated_facts.Given as goal

abbrev pub invariant-loop-number : goal.invariant-loop-number
invariant-loop-number l =
    l.numbers ≡ numbers_where (is_dated (source_of l.start.source) l.tick l.positive) 0 (take l.number l.facts)
