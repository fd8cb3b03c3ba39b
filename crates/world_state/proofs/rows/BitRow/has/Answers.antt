use Rattle.std.proofs.Common.{◌∙◌, ap, eqb, not, get_or, ◌%◌, ◌^◌, ◌*◌, ◌/◌}
use Rattle.std.specs.Prelude.{bit_and}
use Rattle.world_state.proofs.RowBits.{tested}
use Rattle.world_state.proofs.rows.BitRow.has.Goals as goal

pub returns : goal.returns
returns c =
    ap (λ x. not (eqb (bit_and x (1 * 2 ^ (c.args.number % 64) % 2 ^ 64)) 0)) (c.word_at.ensures ∙ ap (λ xs. get_or xs (c.args.number / 64) 0) c.deref.ensures.value)
    ∙ tested c.args.self.now.words.items c.args.number
