use Rattle.std.proofs.Common.{◌≡◌, ℕ, ◌||◌}
use Rattle.tp_spec.specs.declared.plan.Item.{Item}
use Rattle.plan_validator.specs.Standings.{has_standing, stands_timed}
use Rattle.plan_validator.proofs.standings.push_timed.Given as goal

abbrev pub invariant-loop-index : goal.invariant-loop-index
invariant-loop-index l = (t : ℕ) (i : Item) → has_standing l.standings.items t i ≡ (has_standing l.fn.standings.items t i || stands_timed l.problem l.index t i)
