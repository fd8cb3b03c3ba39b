use Rattle.std.proofs.Common.{refl}
use Rattle.std.proofs.lemmas.Bool.{false≢true}
use Rattle.tp_spec.proofs.examples.turns.Goals as goal

pub returns-clause-busy : goal.returns-clause-busy
returns-clause-busy c = (record { busy = refl }, λ h. false≢true h.busy, λ h. false≢true h.busy)
