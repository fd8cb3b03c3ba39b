use Rattle.std.proofs.Common.{◌≡◌, ◌++◌, take}
use Rattle.trace_text.specs.Traces.{listed, act_text}
use Rattle.trace_text.proofs.write.put_acts.Given as goal

abbrev pub invariant-loop-act : goal.invariant-loop-act
invariant-loop-act l = l.text.items ≡ l.fn.text.items ++ listed act_text (take l.act-index l.acts)
