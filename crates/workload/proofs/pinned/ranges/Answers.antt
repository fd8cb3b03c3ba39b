use Rattle.std.proofs.Common.{arith}
use Rattle.workload.proofs.Lengths.{below_3, below_7, below_20}
use Rattle.workload.proofs.pinned.ranges.Goals as goal

pub returns-clause-customers : goal.returns-clause-customers
returns-clause-customers c = λ seed. let below = below_3 seed in (omega arith, omega (arith, below))

pub returns-clause-distances : goal.returns-clause-distances
returns-clause-distances c = λ x. let below = below_7 x in (omega arith, omega (arith, below))

pub returns-clause-deadlines : goal.returns-clause-deadlines
returns-clause-deadlines c = λ customer x. let below = below_20 x in (omega arith, omega (arith, below))
