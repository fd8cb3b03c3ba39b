use Rattle.std.proofs.Common.{◌≡◌, false, take, map}
use Rattle.std.specs.Prelude.{◌==◌}
use Rattle.std.specs.List.{list_any}
use Rattle.word_network.specs.Parts.{act_of}
use Rattle.word_network.proofs.waiting.take_act.Given as goal

abbrev pub invariant-loop-i : goal.invariant-loop-i
invariant-loop-i l = record {
  same : l.acts.items ≡ l.fn.acts.items;
  none : list_any (λ x. x.action == l.action) (map act_of (take l.i l.fn.acts.items)) ≡ false;
}
