use Rattle.std.proofs.Common.{◌≡◌, ◌++◌, drop}
use Rattle.workload.specs.Draws.{state_after}
use Rattle.workload.specs.Texts.{distances_text}
use Rattle.workload.proofs.texts.push_distances.Given as goal

abbrev pub invariant-loop-leg : goal.invariant-loop-leg
invariant-loop-leg l = record {
  text : l.text.items ++ distances_text (drop l.leg-index l.legs) l.draws.state
      ≡ l.fn.text.items ++ distances_text l.legs l.fn.draws.state;
  state : state_after (drop l.leg-index l.legs) l.draws.state
      ≡ state_after l.legs l.fn.draws.state;
}
