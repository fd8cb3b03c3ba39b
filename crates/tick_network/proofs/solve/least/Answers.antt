use Rattle.std.proofs.Common.{◌≡◌, ◌∙◌, ℕ, List, length, map, ap, refl, sym, subst, arith}
use Rattle.std.specs.Prelude.{true}
use Rattle.std.proofs.lemmas.List.{length-map}
use Rattle.tick_network.specs.declared.net.Row.{Row}
use Rattle.tick_network.specs.Nets.{IsLeast, AreSmall}
use Rattle.tick_network.specs.Relaxing.{turned_row, mirror, AreAtLeast, HasNoneBelow, AreGreatestBelow}
use Rattle.tick_network.proofs.Mirrors.{mirrored-small, mirrored-order, least-in, none-mirrored}
use Rattle.tick_network.proofs.solve.least.Goals as goal

pub propagated-requires-clause-ticks : goal.propagated-requires-clause-ticks
propagated-requires-clause-ticks g c = subst AreSmall (sym c.in_ok-at.ensures) (mirrored-small c.deref-4.result.now)

pub propagated-requires-clause-low : goal.propagated-requires-clause-low
propagated-requires-clause-low g c = subst AreSmall (sym (c.deref-6.ensures.value ∙ c.in_ok-low.ensures)) (mirrored-small c.deref-3.result.now)

pub propagated-requires-clause-above : goal.propagated-requires-clause-above
propagated-requires-clause-above g c =
    let order : AreAtLeast c.args.net.now.low.items c.args.net.now.high.items =
    subst (λ (xs : List ℕ). AreAtLeast xs c.args.net.now.high.items) c.deref.ensures.value (subst (λ (ys : List ℕ). AreAtLeast c.deref.result.now ys) c.deref-2.ensures.value (c.if-not-are_in_order.ensures.yes refl)) in
    let low : c.deref-6.result.now ≡ map mirror c.args.net.now.high.items = c.deref-6.ensures.value ∙ c.in_ok-low.ensures ∙ ap (map mirror) c.deref-3.ensures.value in
    let at : c.in_ok-at.at.items ≡ map mirror c.args.net.now.low.items = c.in_ok-at.ensures ∙ ap (map mirror) c.deref-4.ensures.value in
    subst (λ (xs : List ℕ). AreAtLeast xs c.in_ok-at.at.items) (sym low) (subst (λ (ys : List ℕ). AreAtLeast (map mirror c.args.net.now.high.items) ys) (sym at) (mirrored-order c.args.net.now.low.items c.args.net.now.high.items c.requires.bounds order))

pub mirrored_ticks-requires-in-Some : goal.mirrored_ticks-requires-in-Some
mirrored_ticks-requires-in-Some g c =
    let small : AreSmall c.in_ok-at.at.items = subst AreSmall (sym c.in_ok-at.ensures) (mirrored-small c.deref-4.result.now) in
    subst AreSmall (sym c.deref-in-Some.ensures.value) (λ v. omega (arith, small v, c.in-Some.ensures.some.lower v))

pub returns-in-Some-clause-least : goal.returns-in-Some-clause-least
returns-in-Some-clause-least g c =
    let low : c.deref-6.result.now ≡ map mirror c.args.net.now.high.items = c.deref-6.ensures.value ∙ c.in_ok-low.ensures ∙ ap (map mirror) c.deref-3.ensures.value in
    let at : c.in_ok-at.at.items ≡ map mirror c.args.net.now.low.items = c.in_ok-at.ensures ∙ ap (map mirror) c.deref-4.ensures.value in
    let count : length c.deref-6.result.now ≡ length c.args.net.now.low.items = ap length low ∙ length-map c.args.net.now.high.items mirror ∙ c.requires.bounds in
    let settled : AreGreatestBelow (map (turned_row true) c.args.net.now.rows.items) c.deref-6.result.now c.in_ok-at.at.items c.in-Some.far.items =
    subst (λ (rs : List Row). AreGreatestBelow (map (turned_row true) rs) c.deref-6.result.now c.in_ok-at.at.items c.in-Some.far.items) c.deref-5.ensures.value c.in-Some.ensures.some in
    subst (λ (xs : List ℕ). IsLeast c.args.net.now xs) (sym (c.in_ok-ticks-in-Some.ensures ∙ ap (map mirror) c.deref-in-Some.ensures.value))
    (least-in c.args.net.now c.deref-6.result.now c.in_ok-at.at.items c.in-Some.far.items c.requires low at settled (c.in-Some.ensures.count ∙ count))

pub returns-clause-none : goal.returns-clause-none
returns-clause-none g c =
    let low : c.deref-6.result.now ≡ map mirror c.args.net.now.high.items = c.deref-6.ensures.value ∙ c.in_ok-low.ensures ∙ ap (map mirror) c.deref-3.ensures.value in
    let at : c.in_ok-at.at.items ≡ map mirror c.args.net.now.low.items = c.in_ok-at.ensures ∙ ap (map mirror) c.deref-4.ensures.value in
    none-mirrored c.args.net.now c.deref-6.result.now c.in_ok-at.at.items c.requires low at
    (subst (λ (rs : List Row). HasNoneBelow (map (turned_row true) rs) c.deref-6.result.now c.in_ok-at.at.items) c.deref-5.ensures.value c.in-None.ensures.none)
