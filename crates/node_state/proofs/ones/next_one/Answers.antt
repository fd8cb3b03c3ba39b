use Rattle.std.proofs.Common.{arith}
use Rattle.node_state.proofs.Bits.{none-behind, none-between}
use Rattle.node_state.proofs.ones.next_one.Goals as goal

pub returns-then-rest-eq0-clause-none : goal.returns-then-rest-eq0-clause-none
returns-then-rest-eq0-clause-none c = λ i after before. none-behind c.args.word c.args.from i c.if-rest-eq0.true after

pub returns-clause-none : goal.returns-clause-none
returns-clause-none c = λ i after before. none-between c.args.word c.args.from i c.if-rest-eq0.false c.ranges.word.fits after (omega (arith, c.min.ensures, before))
