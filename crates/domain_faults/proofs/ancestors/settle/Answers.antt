use Rattle.std.proofs.Common.{ℕ, ◌-◌, ◌<◌, ◌≤◌, List, length, get_or, sym, subst}
use Rattle.domain_faults.proofs.Walks.{walk_begins, stays_met, start_met, place_fits, ring_inside, ring_known, none_known}
use Rattle.domain_faults.proofs.ancestors.settle.Goals as goal

pub walk-requires-clause-walk : goal.walk-requires-clause-walk
walk-requires-clause-walk c = walk_begins c.args.above.now c.args.places.now c.args.order.now c.args.marks.now c.args.start c.requires.known c.requires.inside

pub mark-requires : goal.mark-requires
mark-requires c = record {
  start = subst (λ (xs : List ℕ). get_or c.walk.new.places c.in_ok-end.end 0 - 1 ≤ length xs) (sym c.as_slice.ensures) (place_fits c.walk.new.places c.walk.new.order c.in_ok-end.end c.in_ok-end.ensures.walk.ordered c.in_ok-end.ensures.met);
  inside = subst (λ (xs : List ℕ). (i : ℕ) → i < length xs → get_or xs i 0 < length c.args.marks.now) (sym c.as_slice.ensures)
      (ring_inside c.args.above.now c.args.places.now c.args.order.now c.walk.new.places c.walk.new.order c.args.marks.now (length c.args.order.now) c.args.start c.in_ok-end.end c.requires.known c.in_ok-end.ensures.walk);
}

pub returns-then-place-known : goal.returns-then-place-known
returns-then-place-known c = record {
  known = ring_known c.args.above.now c.args.places.now c.args.order.now c.walk.new.places c.walk.new.order c.as_slice.result.now c.args.marks.now c.mark.new.marks c.args.start c.in_ok-end.end
      c.requires.known c.in_ok-end.ensures.walk c.in_ok-end.ensures.met (subst (λ (xs : List ℕ). length xs < get_or c.walk.new.places c.in_ok-end.end 0) c.as_slice-known.ensures c.if-place-known.true) c.as_slice.ensures c.mark.ensures.ring c.mark.ensures.rest c.mark.auto.marks;
  grown = λ v h. stays_met c.args.above.now c.args.places.now c.walk.new.places c.walk.new.order (length c.args.order.now) c.args.start c.in_ok-end.end v c.in_ok-end.ensures.walk h;
  met = start_met c.args.above.now c.args.places.now c.walk.new.places c.walk.new.order (length c.args.order.now) c.args.start c.in_ok-end.end c.in_ok-end.ensures.walk c.in_ok-end.ensures.met;
}

pub returns-else-place-known : goal.returns-else-place-known
returns-else-place-known c = record {
  known = none_known c.args.above.now c.args.places.now c.args.order.now c.walk.new.places c.walk.new.order c.args.marks.now c.args.start c.in_ok-end.end
      c.requires.known c.in_ok-end.ensures.walk c.in_ok-end.ensures.met (subst (λ (xs : List ℕ). get_or c.walk.new.places c.in_ok-end.end 0 ≤ length xs) c.as_slice-known.ensures c.if-place-known.false);
  grown = λ v h. stays_met c.args.above.now c.args.places.now c.walk.new.places c.walk.new.order (length c.args.order.now) c.args.start c.in_ok-end.end v c.in_ok-end.ensures.walk h;
  met = start_met c.args.above.now c.args.places.now c.walk.new.places c.walk.new.order (length c.args.order.now) c.args.start c.in_ok-end.end c.in_ok-end.ensures.walk c.in_ok-end.ensures.met;
}
