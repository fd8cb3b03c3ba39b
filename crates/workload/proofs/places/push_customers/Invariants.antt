use Rattle.std.proofs.Common.{◌≡◌, ◌++◌}
use Rattle.workload.specs.Places.{customers}
use Rattle.workload.proofs.places.push_customers.Given as goal

abbrev pub invariant-loop-before : goal.invariant-loop-before
invariant-loop-before l = l.places.items ≡ l.fn.places.items ++ customers l.before
