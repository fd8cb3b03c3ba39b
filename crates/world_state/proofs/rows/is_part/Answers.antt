use Rattle.std.proofs.Common.{refl, ◌∙◌, ap, arith, get_or, w64}
use Rattle.std.proofs.lemmas.Bool.{false≢true}
use Rattle.std.proofs.Math.Facts.{Fits-lt-pow}
use Rattle.std.specs.Prelude.{bit_and}
use Rattle.std.specs.Int.{bit_not}
use Rattle.world_state.proofs.RowBits.{sticks_out, no_more}
use Rattle.world_state.proofs.rows.is_part.Goals as goal

pub returns-then-word-word_at-ne0 : goal.returns-then-word-word_at-ne0
returns-then-word-word_at-ne0 c = (
  λ yes. absurd (false≢true yes),
  λ within. absurd (sticks_out c.args.a.now c.args.b.now c.loop-k.k
      (λ none. c.if-word-word_at-ne0.true (ap (λ x. bit_and (get_or c.args.a.now c.loop-k.k 0) (bit_not w64 x)) c.word_at.ensures ∙ none))
      (Fits-lt-pow (c.type_inv.a c.loop-k.k)) (Fits-lt-pow (c.type_inv.b c.loop-k.k)) within),
)

pub returns : goal.returns
returns c = (
  λ _. no_more c.args.a.now c.args.b.now (λ j below. c.loop-k.invariant j (omega arith)) (λ j. Fits-lt-pow (c.type_inv.b j)),
  λ _. refl,
)
