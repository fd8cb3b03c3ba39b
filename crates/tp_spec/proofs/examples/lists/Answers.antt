use Rattle.std.proofs.Common.{refl, [], ◌∷◌}
use Rattle.tp_spec.proofs.Few.{second_first}
use Rattle.tp_spec.proofs.examples.lists.Goals as goal

pub returns-clause-fronts : goal.returns-clause-fronts
returns-clause-fronts c = (record { rest = 2 ∷ []; is = refl }, λ h. second_first h.rest h.is)
