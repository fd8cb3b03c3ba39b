use Rattle.std.proofs.Common.{refl, length}
use Rattle.tp_laws.proofs.WordLaws.{word-laws}
use Rattle.situated_machine.specs.declared.replayed.Replayed.TheVariants.{Run}
use Rattle.situated_machine.proofs.Answering.{runs-founded, one-answer, none-broken}
use Rattle.situated_machine.proofs.laws.answers_to_runs.Goals as goal

pub returns-clause-whole : goal.returns-clause-whole
returns-clause-whole c p l formed history answer run is = one-answer p l history answer (Run (length history)) is ((runs-founded p l (word-laws p l formed).fronts history run).0, refl)

pub returns-clause-unbroken : goal.returns-clause-unbroken
returns-clause-unbroken c p l formed history event rule run = none-broken p l history event rule (runs-founded p l (word-laws p l formed).fronts history run).0
