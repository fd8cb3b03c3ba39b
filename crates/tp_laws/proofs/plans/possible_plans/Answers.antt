use Rattle.tp_laws.proofs.ValidOfPlans.{words-possible}
use Rattle.tp_laws.proofs.plans.possible_plans.Goals as goal

pub returns : goal.returns
returns c = words-possible c.spelled_plans.ensures.groups c.spelled_plans.ensures.spelled
