use Rattle.std.proofs.Common.{◌<◌, ◌≤◌, ◌+◌, ap, subst, List, ℕ}
use Rattle.std.specs.Prelude.{slice_index, length}
use Rattle.tick_network.proofs.Answering.{greatest-if, none-if, none-apart, kept-of}
use Rattle.tick_network.proofs.solve.greatest_below.Goals as goal

pub returns-then-not-are_in_order-clause-none : goal.returns-then-not-are_in_order-clause-none
returns-then-not-are_in_order-clause-none g c =
    let apart = c.if-not-are_in_order.ensures.no cc in
    none-apart c.args.net.now c.deref.result.now c.args.from.items apart.0 c.deref.ensures.value c.requires.above apart.1
    (subst (λ (xs : List ℕ). slice_index xs apart.0 < slice_index c.deref.result.now apart.0) c.deref-2.ensures.value apart.2)

pub returns-clause-greatest : goal.returns-clause-greatest
returns-clause-greatest g c =
    greatest-if _ c.propagated.result c.args.net.now c.deref-3.result.now c.deref-4.result.now c.args.from.items c.deref-3.ensures.value c.deref-4.ensures.value c.requires.count c.requires.below c.requires.above c.propagated.ensures.count c.propagated.ensures.some

pub returns-clause-none : goal.returns-clause-none
returns-clause-none g c =
    none-if c.propagated.result c.args.net.now c.deref-3.result.now c.deref-4.result.now c.args.from.items c.deref-3.ensures.value c.deref-4.ensures.value c.requires.count c.requires.above c.propagated.ensures.none

pub returns-clause-solved : goal.returns-clause-solved
returns-clause-solved g c solution =
    subst (λ (n : ℕ). c.propagated.new.steps ≤ c.args.steps.now + n) (ap length c.deref-3.ensures.value)
    (c.propagated.ensures.kept (kept-of c.args.net.now c.deref-3.result.now (slice_index c.args.from.items) c.deref-3.ensures.value solution))
