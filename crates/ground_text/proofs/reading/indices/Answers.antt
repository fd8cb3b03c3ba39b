use Rattle.std.proofs.Common.{length, sym, ap, ◌∙◌}
use Rattle.ground_text.specs.Reading.{index_at, indices_at}
use Rattle.ground_text.proofs.Loops.{member_goes_on, member_stops}
use Rattle.ground_text.proofs.reading.indices.Goals as goal

pub returns-then-not-first_is : goal.returns-then-not-first_is
unfolding indices_at
returns-then-not-first_is c =
    ap (λ xs. (xs, c.loop.rest.now)) c.of.ensures
    ∙ member_stops index_at c.loop.items.items (length c.args.bytes.now) c.loop.counter c.loop.rest.now _ c.loop-test.true (sym c.first_is.ensures ∙ c.if-not-first_is.true) c.loop.invariant

pub loop-preserved : goal.loop-preserved
loop-preserved c =
    rw c.in_ok-push.ensures.items
    (member_goes_on index_at c.loop.items.items (length c.args.bytes.now) c.loop.counter c.loop.rest.now c.index-item.result.0 c.index-item.result.1.now _
    c.loop-test.true (sym c.first_is.ensures ∙ c.if-not-first_is.false) (c.index-item.ensures ∙ ap index_at c.skip.ensures) c.loop.invariant)
