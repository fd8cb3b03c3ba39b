use Rattle.std.proofs.Common.{ap, length}
use Rattle.domain_faults.proofs.Walks.{walk_goes, walk_shorter, longer_by_one}
use Rattle.domain_faults.proofs.ancestors.walk.Goals as goal

pub up-preserved : goal.up-preserved
up-preserved c =
    walk_goes c.args.above.now c.args.places.now c.up.places c.up.order c.push.new.self (length c.args.order.now) c.args.start c.up.at (length c.as_slice.result.now)
    c.up.invariant c.if-places-at-ne0.false (c.requires.below c.up.at c.up.invariant.inside) c.in_ok-push.ensures.ok (ap length c.as_slice.ensures)

pub up-smaller : goal.up-smaller
up-smaller c =
    let w = walk_goes c.args.above.now c.args.places.now c.up.places c.up.order c.push.new.self (length c.args.order.now) c.args.start c.up.at (length c.as_slice.result.now)
    c.up.invariant c.if-places-at-ne0.false (c.requires.below c.up.at c.up.invariant.inside) c.in_ok-push.ensures.ok (ap length c.as_slice.ensures) in
    longer_by_one c.up.order c.push.new.self c.up.at (length c.args.above.now) c.in_ok-push.ensures.ok
    (walk_shorter c.args.above.now c.args.places.now _ c.push.new.self (length c.args.order.now) c.args.start _ w)
