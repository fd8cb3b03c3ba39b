use Rattle.std.proofs.Common.{◌≡◌, length, nat_lt}
use Rattle.tp_spec.specs.Lists.{each_next}
use Rattle.problem_rules.proofs.checks.ticks_rise.Given as goal

abbrev pub invariant-pairs : goal.invariant-pairs
invariant-pairs l = each_next (λ s t. nat_lt s.tick t.tick) l.rest ≡ each_next (λ s t. nat_lt s.tick t.tick) l.items

abbrev pub decreases-pairs : goal.decreases-pairs
decreases-pairs l = length l.rest
