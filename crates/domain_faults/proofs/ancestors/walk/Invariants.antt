use Rattle.std.proofs.Common.{◌-◌, length}
use Rattle.domain_faults.specs.Walks.{IsWalk}
use Rattle.domain_faults.proofs.ancestors.walk.Given as goal

abbrev pub invariant-up : goal.invariant-up
invariant-up l = IsWalk l.above l.fn.places l.places l.order (length l.fn.order) l.start l.at

abbrev pub decreases-up : goal.decreases-up
decreases-up l = length l.above - length l.order
