use Rattle.std.proofs.Common.{arith}
use Rattle.std.proofs.Math.Facts.{Fits-lt-pow}
use Rattle.world_state.proofs.RowBits.{removed}
use Rattle.world_state.proofs.rows.remove_words.Goals as goal

pub returns-clause-has : goal.returns-clause-has
returns-clause-has c =
    removed c.args.from.now c.loop-k.from c.args.less.now (omega arith) (λ j below. c.loop-k.invariant.done j (omega arith))
    (λ j. Fits-lt-pow (c.type_inv.less j))
