use Rattle.std.proofs.Common.{take}
use Rattle.std.specs.List.{list_any}
use Rattle.tp_spec.specs.Interference.{asks}
use Rattle.node_state.specs.Footprints.{Covers}
use Rattle.node_state.proofs.footprints.asked_bits.Given as goal

abbrev pub invariant-loop-cond : goal.invariant-loop-cond
invariant-loop-cond l = Covers l.bits (λ f. list_any (asks f) (take l.cond-index l.conds))
