use Rattle.std.proofs.Common.{◌≡◌, take}
use Rattle.grounder.specs.Sources.{source_of}
use Rattle.grounder.specs.Objects.{numbers_where}
use Rattle.grounder.specs.Starts.{is_true}
use Rattle.grounder.proofs.grounding.init_of.Given as goal

abbrev pub invariant-loop-number : goal.invariant-loop-number
invariant-loop-number l =
    l.init ≡ numbers_where (is_true (source_of l.start.source)) 0 (take l.number l.facts)
