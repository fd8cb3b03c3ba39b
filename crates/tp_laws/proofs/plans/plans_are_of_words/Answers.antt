use Rattle.tp_laws.proofs.PlanOfLaws.{plans-of-words, complete-words}
use Rattle.tp_laws.proofs.plans.plans_are_of_words.Goals as goal

pub returns-clause-plans : goal.returns-clause-plans
returns-clause-plans c p l formed = plans-of-words p l formed

pub returns-clause-complete : goal.returns-clause-complete
returns-clause-complete c p l formed = complete-words p l formed (c.words_of_plans.ensures.whole p l formed)
