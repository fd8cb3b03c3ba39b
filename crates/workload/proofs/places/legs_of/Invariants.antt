use Rattle.std.proofs.Common.{◌≡◌, ◌++◌, drop}
use Rattle.workload.specs.Places.{legs_between}
use Rattle.workload.proofs.places.legs_of.Given as goal

abbrev pub invariant-loop-from : goal.invariant-loop-from
invariant-loop-from l =
    l.legs.items ++ legs_between (drop l.from-index l.places) l.places
    ≡ legs_between l.places l.places
