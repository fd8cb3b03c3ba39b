use Rattle.std.proofs.Common.{◌≡◌, ◌++◌, take, drop, map}
use Rattle.tp_spec.specs.Words.{ended}
use Rattle.word_network.specs.Parts.{act_of}
use Rattle.word_network.proofs.parts.end_act.Given as goal

abbrev pub invariant-loop-i : goal.invariant-loop-i
invariant-loop-i l = record {
  same : l.acts ≡ l.fn.acts;
  passed : map act_of (take l.i l.fn.acts) ++ ended l.action l.group (map act_of (drop l.i l.fn.acts)) ≡ ended l.action l.group (map act_of l.fn.acts);
}
