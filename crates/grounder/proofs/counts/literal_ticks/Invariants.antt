use Rattle.std.proofs.Common.{◌≡◌, map, take}
use Rattle.grounder.proofs.counts.literal_ticks.Given as goal

abbrev pub invariant-loop-dated : goal.invariant-loop-dated
invariant-loop-dated l = l.ticks ≡ map (λ d. d.tick) (take l.dated-index l.timed)
