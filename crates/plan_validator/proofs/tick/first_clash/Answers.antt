use Rattle.std.proofs.Common.{◌∙◌}
use Rattle.tp_spec.specs.declared.plan.Item.TheVariants.{TimedAt}
use Rattle.plan_validator.proofs.Ticks.{clash_found, clash_behind}
use Rattle.plan_validator.proofs.tick.first_clash.Goals as goal

pub returns-in-Some : goal.returns-in-Some
returns-in-Some c = λ p tables.
    clash_found p c.loop-rest.rest.now (TimedAt 0) c.in-Some.other c.in-len1-up.len_at_least (c.in-Some.ensures p tables) ∙ c.loop-rest.invariant p tables

pub loop-rest-preserved : goal.loop-rest-preserved
loop-rest-preserved c = λ p tables.
    clash_behind p c.loop-rest.rest.now (TimedAt 0) c.in-len1-up.len_at_least (c.in_default-first_against.ensures p tables) ∙ c.loop-rest.invariant p tables
