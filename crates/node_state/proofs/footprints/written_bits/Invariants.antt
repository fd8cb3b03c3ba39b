use Rattle.std.proofs.Common.{take}
use Rattle.std.specs.List.{list_any}
use Rattle.node_state.specs.Footprints.{writes}
use Rattle.node_state.specs.Footprints.{Covers}
use Rattle.node_state.proofs.footprints.written_bits.Given as goal

abbrev pub invariant-loop-effect : goal.invariant-loop-effect
invariant-loop-effect l = Covers l.bits (λ f. list_any (writes f) (take l.effect-index l.effects))
