use Rattle.world_state.specs.View.{meaning}
use Rattle.plan_validator.proofs.Ticks.{not_over}
use Rattle.plan_validator.proofs.tick.fluent_over.Goals as goal

pub unreachable-requires : goal.unreachable-requires
unreachable-requires c = not_over c.args.problem.now (meaning c.args.state.now) c.args.here.now c.requires.none (c.in_ok-fluent.ensures.none c.in-None.is)
