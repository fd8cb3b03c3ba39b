use Rattle.std.proofs.Common.{arith}
use Rattle.world_state.proofs.RowBits.{added}
use Rattle.world_state.proofs.rows.add_words.Goals as goal

pub returns-clause-has : goal.returns-clause-has
returns-clause-has c = added c.args.into.now c.loop-k.into c.args.more.now (omega arith) (λ j below. c.loop-k.invariant.done j (omega arith))
