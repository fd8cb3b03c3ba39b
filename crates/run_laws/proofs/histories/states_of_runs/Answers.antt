use Rattle.run_laws.proofs.Runs.{tree-of}
use Rattle.tp_laws.proofs.WordLaws.{word-laws}
use Rattle.run_laws.proofs.histories.states_of_runs.Goals as goal

pub returns : goal.returns
returns c p l formed = tree-of p l (word-laws p l formed).fronts
