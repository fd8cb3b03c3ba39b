use Rattle.std.proofs.Common.{refl, ◌∙◌, ap, arith, length, set, ◌%◌, ◌^◌, ◌*◌, ◌/◌, ◌<◌, ◌≤◌, w64, length-set}
use Rattle.std.proofs.lemmas.Grind.{get_or_default_zero}
use Rattle.std.specs.Prelude.{bit_and}
use Rattle.std.specs.Int.{bit_not}
use Rattle.world_state.specs.Rows.{has_bit}
use Rattle.world_state.proofs.RowBits.{taken_out, taken_past}
use Rattle.world_state.proofs.rows.BitRow.remove.Goals as goal

pub returns-then-index-len : goal.returns-then-index-len
returns-then-index-len c = record {
  wide = length-set _ _ _;
  has = λ f.
      let within : c.args.number / 64 < length c.args.self.now.words.items = omega arith in
      ap (λ x. has_bit (set c.args.self.now.words.items (c.args.number / 64) (bit_and x (bit_not w64 (1 * 2 ^ (c.args.number % 64) % 2 ^ 64)))) f)
      (c.index_mut.ensures.value ∙ get_or_default_zero c.args.self.now.words.items (c.args.number / 64) c.index_mut.result.now within)
      ∙ taken_out c.args.self.now.words.items c.args.number within f;
}

pub returns-else-index-len : goal.returns-else-index-len
returns-else-index-len c = record {
  wide = refl;
  has = λ f.
      let past : length c.args.self.now.words.items ≤ c.args.number / 64 = omega arith in
      taken_past c.args.self.now.words.items c.args.number past f;
}
