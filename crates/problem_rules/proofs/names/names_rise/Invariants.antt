use Rattle.std.proofs.Common.{◌≡◌, length}
use Rattle.tp_spec.specs.Lists.{each_next}
use Rattle.tp_spec.specs.WellFormed.{name_before}
use Rattle.problem_rules.proofs.names.names_rise.Given as goal

abbrev pub invariant-pairs : goal.invariant-pairs
invariant-pairs l = each_next name_before l.rest ≡ each_next name_before l.names

abbrev pub decreases-pairs : goal.decreases-pairs
decreases-pairs l = length l.rest
