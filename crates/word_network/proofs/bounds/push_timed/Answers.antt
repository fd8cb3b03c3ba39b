use Rattle.std.proofs.Common.{ap, length, arith, drop}
use Rattle.tp_spec.specs.WellFormed.{Ground}
use Rattle.word_network.proofs.Walking.{timed-out}
use Rattle.word_network.proofs.bounds.push_timed.Goals as goal

pub returns-in-None : goal.returns-in-None
returns-in-None c = timed-out (drop c.loop-i.i c.args.timed.now) c.args.problem.now.timed c.loop-i.i c.loop-i.bounds.items _ (omega (arith, c.in-None.ensures.lookup, ap length c.as_slice.ensures, ap (λ (q : Ground). length q.timed) c.problem.view_is)) c.loop-i.invariant
