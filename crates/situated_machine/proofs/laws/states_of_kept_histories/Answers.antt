use Rattle.situated_machine.proofs.Orderly.{orderly-of}
use Rattle.situated_machine.proofs.laws.states_of_kept_histories.Goals as goal

pub returns : goal.returns
returns c p l formed = orderly-of p l
