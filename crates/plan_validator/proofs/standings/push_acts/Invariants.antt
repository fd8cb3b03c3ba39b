use Rattle.std.proofs.Common.{◌≡◌, ℕ, ◌||◌, take}
use Rattle.tp_spec.specs.declared.plan.Item.{Item}
use Rattle.plan_validator.specs.Standings.{has_standing, stands_by}
use Rattle.plan_validator.proofs.standings.push_acts.Given as goal

abbrev pub invariant-loop-act : goal.invariant-loop-act
invariant-loop-act l = (t : ℕ) (i : Item) → has_standing l.standings.items t i ≡ (has_standing l.fn.standings.items t i || stands_by l.problem (take l.act-index l.acts) t i)
