use Rattle.run_cli.proofs.Bounded.{small_acts}
use Rattle.run_cli.proofs.validating.plan_answer.Goals as goal

pub validate-requires-clause-small : goal.validate-requires-clause-small
validate-requires-clause-small c = small_acts c.in-Ok.plan.acts c.in-Ok.ensures.bounded.short
