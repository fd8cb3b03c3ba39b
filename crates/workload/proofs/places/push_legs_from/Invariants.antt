use Rattle.std.proofs.Common.{◌≡◌, ◌++◌, drop}
use Rattle.workload.specs.Places.{legs_from}
use Rattle.workload.proofs.places.push_legs_from.Given as goal

abbrev pub invariant-loop-to : goal.invariant-loop-to
invariant-loop-to l =
    l.legs.items ++ legs_from l.from (drop l.to-index l.places)
    ≡ l.fn.legs.items ++ legs_from l.from l.places
