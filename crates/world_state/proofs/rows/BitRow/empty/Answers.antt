use Rattle.world_state.proofs.RowBits.{zeros}
use Rattle.world_state.proofs.rows.BitRow.empty.Goals as goal

pub returns-in-Ok-clause-none : goal.returns-in-Ok-clause-none
returns-in-Ok-clause-none c = zeros c.div_ceil.result c.in-Ok.words.items (c.in-Ok.ensures.items_if_clones_equal (λ y same. same))
