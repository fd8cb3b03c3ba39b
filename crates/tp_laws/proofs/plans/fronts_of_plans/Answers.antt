use Rattle.tp_laws.proofs.PlanOfLaws.{live-fronts}
use Rattle.tp_laws.proofs.plans.fronts_of_plans.Goals as goal

pub returns : goal.returns
returns c p l formed = live-fronts p l formed (c.words_of_plans.ensures.sound p l formed)
