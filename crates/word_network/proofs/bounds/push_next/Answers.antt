use Rattle.std.proofs.Common.{ap, length, arith}
use Rattle.tp_spec.specs.WellFormed.{Ground}
use Rattle.word_network.proofs.Walking.{no-next}
use Rattle.word_network.proofs.bounds.push_next.Goals as goal

pub returns-in-None : goal.returns-in-None
returns-in-None c = no-next c.args.last c.args.problem.now.timed c.args.timed c.args.bounds.now.items (omega (arith, c.in-None.ensures.lookup, ap length c.as_slice.ensures, ap (λ (q : Ground). length q.timed) c.problem.view_is))
