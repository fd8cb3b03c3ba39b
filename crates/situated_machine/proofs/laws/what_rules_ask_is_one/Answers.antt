use Rattle.tp_laws.proofs.WordOfPlans.{spell-sound}
use Rattle.situated_machine.proofs.Single.{one-marks, one-due, one-plan}
use Rattle.situated_machine.proofs.laws.what_rules_ask_is_one.Goals as goal

pub returns-clause-marks : goal.returns-clause-marks
returns-clause-marks c p l formed = one-marks p l

pub returns-clause-due : goal.returns-clause-due
returns-clause-due c p l formed = one-due p l

pub returns-clause-plan : goal.returns-clause-plan
returns-clause-plan c p l formed = one-plan p l (spell-sound p l formed)
