use Rattle.std.proofs.Common.{◌∙◌, List, refl, sym, ap, subst, map, arith}
use Rattle.word_frontier.specs.declared.slot.Slot.{Slot}
use Rattle.word_frontier.specs.declared.slot.Among.TheVariants as among
use Rattle.word_frontier.specs.declared.slot.State.TheVariants.{Taken}
use Rattle.word_frontier.specs.Nodes.{FrontierView, IsLeast, open_nodes, taken_by}
use Rattle.word_frontier.specs.Slots.{AreChained, HeadMoved, keys, ranks_of, links_of}
use Rattle.word_frontier.proofs.Nodes.{none-least}
use Rattle.word_frontier.proofs.Keeping.{none-open, open-node, head-within, write-of, write-changed, chained-after, head-ranked, take-kept, take-nodes}
use Rattle.word_frontier.proofs.frontier.Frontier.take_least.Goals as goal

pub returns-in_default-clause-nodes : goal.returns-in_default-clause-nodes
returns-in_default-clause-nodes c = λ n h.
    let none = none-open c.self.inside.slots.items c.self.inside.lasts.items c.self.inside.opens c.self.inside.stands c.self.invariant c.in_default.ensures in
    absurd (none-least _ n none (subst (λ (f : FrontierView). IsLeast (open_nodes f.nodes) n) (sym c.self.view_is) h))

pub index_mut-requires : goal.index_mut-requires
index_mut-requires c =
    let h = head-within among.Open c.self.inside.slots.items c.self.inside.opens c.in-Some.rank c.in-Some.id c.self.invariant.open_heads c.in-Some.ensures in omega (arith, h)

pub move_head-requires-clause-chained : goal.move_head-requires-clause-chained
move_head-requires-clause-chained c =
    let within = head-within among.Open c.self.inside.slots.items c.self.inside.opens c.in-Some.rank c.in-Some.id c.self.invariant.open_heads c.in-Some.ensures in
    let w = write-of c.self.inside.slots.items c.deref.result.now c.in-Some.id _ _ Taken c.args.actor within c.index_mut.ensures.value c.note_taker.ensures c.deref.ensures.value in
    subst (AreChained (ranks_of c.deref.result.now) (links_of c.deref.result.now)) (sym c.deref-2.ensures.value)
    (chained-after c.self.inside.slots.items c.deref.result.now c.self.inside.lasts.items c.self.invariant.chained (write-changed _ _ _ _ _ _ w))

pub move_head-requires-clause-head : goal.move_head-requires-clause-head
move_head-requires-clause-head c =
    let within = head-within among.Open c.self.inside.slots.items c.self.inside.opens c.in-Some.rank c.in-Some.id c.self.invariant.open_heads c.in-Some.ensures in
    let w = write-of c.self.inside.slots.items c.deref.result.now c.in-Some.id _ _ Taken c.args.actor within c.index_mut.ensures.value c.note_taker.ensures c.deref.ensures.value in
    head-ranked among.Open c.self.inside.slots.items c.deref.result.now c.self.inside.opens c.in-Some.rank c.self.invariant.open_heads (write-changed _ _ _ _ _ _ w)

pub invariant_of-self : goal.invariant_of-self
invariant_of-self c =
    let within = head-within among.Open c.self.inside.slots.items c.self.inside.opens c.in-Some.rank c.in-Some.id c.self.invariant.open_heads c.in-Some.ensures in
    let w = write-of c.self.inside.slots.items _ c.in-Some.id _ _ Taken c.args.actor within c.index_mut.ensures.value c.note_taker.ensures refl in
    take-kept _ _ _ _ _ _ _ _ _ _ c.self.invariant c.in-Some.ensures w
    (subst (λ (xs : List Slot). HeadMoved c.in-Some.rank (keys among.Open xs) c.self.inside.opens c.move_head.new.heads) c.deref.ensures.value c.move_head.ensures)

pub returns-clause-none : goal.returns-clause-none
returns-clause-none c = λ e.
    let l = open-node c.self.inside.slots.items c.self.inside.lasts.items c.self.inside.opens c.self.inside.stands c.in-Some.rank c.in-Some.id c.self.invariant c.in-Some.ensures in
    absurd (none-least _ l.0 (ap (λ (f : FrontierView). open_nodes f.nodes) c.self.view_is ∙ e) l.1.0)

pub returns-clause-nodes : goal.returns-clause-nodes
returns-clause-nodes c = λ n h.
    let within = head-within among.Open c.self.inside.slots.items c.self.inside.opens c.in-Some.rank c.in-Some.id c.self.invariant.open_heads c.in-Some.ensures in
    let w = write-of c.self.inside.slots.items _ c.in-Some.id _ _ Taken c.args.actor within c.index_mut.ensures.value c.note_taker.ensures refl in
    take-nodes _ _ _ _ _ _ _ _ _ n c.self.invariant c.in-Some.ensures w (subst (λ (f : FrontierView). IsLeast (open_nodes f.nodes) n) (sym c.self.view_is) h)
    ∙ ap (λ (f : FrontierView). map (taken_by c.args.actor n.id) f.nodes) c.self.view_is
