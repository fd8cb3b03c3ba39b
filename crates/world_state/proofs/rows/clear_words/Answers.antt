use Rattle.std.proofs.Common.{arith}
use Rattle.world_state.proofs.RowBits.{cleared}
use Rattle.world_state.proofs.rows.clear_words.Goals as goal

pub returns-clause-none : goal.returns-clause-none
returns-clause-none c = cleared c.loop-word.words (λ j below. c.loop-word.invariant j (omega arith))
