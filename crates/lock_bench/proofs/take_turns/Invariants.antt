use Rattle.std.proofs.Common.{◌≡◌}
use Rattle.turn_lock.specs.Lock.{IsSeatOf, parts_of}
use Rattle.lock_bench.proofs.take_turns.Given as goal

abbrev pub invariant-loop-number : goal.invariant-loop-number
invariant-loop-number g l = IsSeatOf l.lock l.seat × (parts_of l.seat ≡ parts_of l.fn.seat)
