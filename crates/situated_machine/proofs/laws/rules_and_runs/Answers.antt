use Rattle.tp_laws.proofs.WordLaws.{word-laws}
use Rattle.situated_machine.proofs.Answering.{runs-founded, founded-runs}
use Rattle.situated_machine.proofs.laws.rules_and_runs.Goals as goal

pub returns-clause-kept : goal.returns-clause-kept
returns-clause-kept c p l formed = runs-founded p l (word-laws p l formed).fronts

pub returns-clause-whole : goal.returns-clause-whole
returns-clause-whole c p l formed = founded-runs p l (word-laws p l formed).fronts
