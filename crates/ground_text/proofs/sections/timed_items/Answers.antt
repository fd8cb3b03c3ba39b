use Rattle.ground_text.specs.Reading.{timed_at}
use Rattle.ground_text.proofs.Loops.{block_goes_on}
use Rattle.ground_text.proofs.sections.timed_items.Goals as goal

pub loop-preserved : goal.loop-preserved
loop-preserved c =
    rw c.in_ok-push.ensures.items
    (block_goes_on timed_at c.loop.items.items c.min-count.result c.loop.counter c.loop.rest.now c.in_ok-item.item c.in_ok-item.after.now _
    c.loop-test.true c.in_ok-item.ensures c.loop.invariant)
