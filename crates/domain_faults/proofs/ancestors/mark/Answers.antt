use Rattle.std.proofs.Common.{arith}
use Rattle.domain_faults.proofs.ancestors.mark.Goals as goal

pub returns-clause-rest : goal.returns-clause-rest
returns-clause-rest c = λ v h. c.loop-place.invariant.rest v (λ i a b. h i a (omega (arith, b, c.requires.start)))
