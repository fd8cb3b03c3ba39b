use Rattle.std.proofs.Common.{refl, ◌∙◌, ap, arith, get_or}
use Rattle.std.proofs.lemmas.Bool.{false≢true}
use Rattle.std.proofs.Math.Facts.{Fits-lt-pow}
use Rattle.std.specs.Prelude.{bit_and}
use Rattle.world_state.proofs.RowBits.{met, apart}
use Rattle.world_state.proofs.rows.meet.Goals as goal

pub returns-then-word-word_at-ne0 : goal.returns-then-word-word_at-ne0
returns-then-word-word_at-ne0 c = (
  λ _. met c.args.a.now c.args.b.now c.loop-k.k
      (λ none. c.if-word-word_at-ne0.true (ap (bit_and (get_or c.args.a.now c.loop-k.k 0)) c.word_at.ensures ∙ none))
      (Fits-lt-pow (c.type_inv.a c.loop-k.k)),
  λ _. refl,
)

pub returns : goal.returns
returns c = (
  λ yes. absurd (false≢true yes),
  λ both. absurd (apart c.args.a.now c.args.b.now (λ j below. c.loop-k.invariant j (omega arith)) both),
)
