use Rattle.std.proofs.Common.{◌≡◌, length, not}
use Rattle.tp_spec.specs.Lists.{each_pair}
use Rattle.tp_spec.specs.WellFormed.{overwrite}
use Rattle.problem_rules.proofs.checks.are_apart.Given as goal

abbrev pub invariant-effects : goal.invariant-effects
invariant-effects l = each_pair (λ a b. not (overwrite a b)) l.rest ≡ each_pair (λ a b. not (overwrite a b)) l.effects

abbrev pub decreases-effects : goal.decreases-effects
decreases-effects l = length l.rest
