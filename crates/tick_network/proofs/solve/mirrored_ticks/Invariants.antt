use Rattle.std.proofs.Common.{◌≡◌, take, map}
use Rattle.tick_network.specs.Relaxing.{mirror}
use Rattle.tick_network.proofs.solve.mirrored_ticks.Given as goal

abbrev pub invariant-loop-tick : goal.invariant-loop-tick
invariant-loop-tick l = l.found.items ≡ map mirror (take l.tick-index l.ticks)
