use Rattle.std.proofs.Common.{◌∙◌, ap, arith, length, set, ◌%◌, ◌^◌, ◌*◌, ◌/◌, ◌<◌}
use Rattle.std.proofs.lemmas.Grind.{get_or_default_zero}
use Rattle.std.specs.Prelude.{bit_or}
use Rattle.world_state.specs.Rows.{has_bit}
use Rattle.world_state.proofs.RowBits.{put_in}
use Rattle.world_state.proofs.rows.BitRow.insert.Goals as goal

pub returns-then-index-len-clause-has : goal.returns-then-index-len-clause-has
returns-then-index-len-clause-has c f =
    let within : c.args.number / 64 < length c.args.self.now.words.items = omega arith in
    ap (λ x. has_bit (set c.args.self.now.words.items (c.args.number / 64) (bit_or x (1 * 2 ^ (c.args.number % 64) % 2 ^ 64))) f)
    (c.index_mut.ensures.value ∙ get_or_default_zero c.args.self.now.words.items (c.args.number / 64) c.index_mut.result.now within)
    ∙ put_in c.args.self.now.words.items c.args.number within f
