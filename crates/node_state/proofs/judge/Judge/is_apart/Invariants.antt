use Rattle.std.proofs.Common.{◌≡◌, true, not, take}
use Rattle.std.specs.List.{list_all}
use Rattle.tp_spec.specs.Interference.{interfere}
use Rattle.node_state.proofs.judge.Judge.is_apart.Given as goal

abbrev pub invariant-loop-other : goal.invariant-loop-other
invariant-loop-other l = list_all (λ j. not (interfere l.self j l.item)) (take l.other-index l.group) ≡ true
