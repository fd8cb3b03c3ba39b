use Rattle.tp_laws.proofs.plans.hopeless_words.Goals as goal

pub returns : goal.returns
returns c p l formed now commits w turn dead plan possible begins = dead (c.fronts_of_plans.ensures p l formed now commits plan w turn possible begins)
