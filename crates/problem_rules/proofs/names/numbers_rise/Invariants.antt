use Rattle.std.proofs.Common.{◌≡◌, length, nat_lt}
use Rattle.tp_spec.specs.Lists.{each_next}
use Rattle.problem_rules.proofs.names.numbers_rise.Given as goal

abbrev pub invariant-pairs : goal.invariant-pairs
invariant-pairs l = each_next nat_lt l.rest ≡ each_next nat_lt l.numbers

abbrev pub decreases-pairs : goal.decreases-pairs
decreases-pairs l = length l.rest
