use Rattle.situated_machine.proofs.Answering.{one-answer}
use Rattle.situated_machine.proofs.laws.one_answer.Goals as goal

pub returns : goal.returns
returns c = one-answer
