use Rattle.std.proofs.Common.{◌∙◌, ◌<◌, List, length, refl, sym, ap, subst, arith}
use Rattle.word_frontier.specs.declared.slot.Slot.{Slot}
use Rattle.word_frontier.specs.declared.slot.Among.TheVariants as among
use Rattle.word_frontier.specs.declared.slot.State.TheVariants.{Gone}
use Rattle.word_frontier.specs.Nodes.{FrontierView, has_id, without}
use Rattle.word_frontier.specs.Slots.{AreChained, HeadMoved, keys, ranks_of, links_of}
use Rattle.word_frontier.proofs.Places.{lies-of}
use Rattle.word_frontier.proofs.Keeping.{here-within, write-of, write-changed, chained-after, head-ranked, rank-within, read-same, leave-kept, leave-nodes}
use Rattle.word_frontier.proofs.frontier.Frontier.leave.Goals as goal

pub index-requires : goal.index-requires
index-requires c = let h = here-within c.self.inside.slots.items c.args.id (ap (λ (f : FrontierView). has_id c.args.id f.nodes) c.self.view_is ∙ c.requires) in omega (arith, h)

pub index_mut-requires : goal.index_mut-requires
index_mut-requires c = let h = here-within c.self.inside.slots.items c.args.id (ap (λ (f : FrontierView). has_id c.args.id f.nodes) c.self.view_is ∙ c.requires) in omega (arith, h)

pub move_head-requires-clause-chained : goal.move_head-requires-clause-chained
move_head-requires-clause-chained c =
    let within = here-within c.self.inside.slots.items c.args.id (ap (λ (f : FrontierView). has_id c.args.id f.nodes) c.self.view_is ∙ c.requires) in
    let w = write-of c.self.inside.slots.items c.deref.result.now c.args.id c.index_mut.result.now _ Gone c.index_mut.result.now.taker within c.index_mut.ensures.value c.note_gone.ensures c.deref.ensures.value in
    subst (AreChained (ranks_of c.deref.result.now) (links_of c.deref.result.now)) (sym c.deref-2.ensures.value)
    (chained-after c.self.inside.slots.items c.deref.result.now c.self.inside.lasts.items c.self.invariant.chained (write-changed _ _ _ _ _ _ w))

pub move_head-requires-clause-head : goal.move_head-requires-clause-head
move_head-requires-clause-head c =
    let within = here-within c.self.inside.slots.items c.args.id (ap (λ (f : FrontierView). has_id c.args.id f.nodes) c.self.view_is ∙ c.requires) in
    let w = write-of c.self.inside.slots.items c.deref.result.now c.args.id c.index_mut.result.now _ Gone c.index_mut.result.now.taker within c.index_mut.ensures.value c.note_gone.ensures c.deref.ensures.value in
    head-ranked among.Open c.self.inside.slots.items c.deref.result.now c.self.inside.opens c.index.result.now.rank c.self.invariant.open_heads (write-changed _ _ _ _ _ _ w)

pub move_head-requires-clause-there : goal.move_head-requires-clause-there
move_head-requires-clause-there c =
    let within = here-within c.self.inside.slots.items c.args.id (ap (λ (f : FrontierView). has_id c.args.id f.nodes) c.self.view_is ∙ c.requires) in
    let lt = rank-within c.self.inside.slots.items c.self.inside.lasts.items c.self.inside.opens c.self.inside.stands c.args.id c.index.result.now c.self.invariant (lies-of _ _ _ within c.index.ensures) in
    let same = c.self.invariant.open_ranks in omega (arith, lt, same)

pub move_head-requires-clause-ranks : goal.move_head-requires-clause-ranks
move_head-requires-clause-ranks c =
    let within = here-within c.self.inside.slots.items c.args.id (ap (λ (f : FrontierView). has_id c.args.id f.nodes) c.self.view_is ∙ c.requires) in
    subst (λ xs. c.index.result.now.rank < length xs) (sym c.deref-2.ensures.value)
    (rank-within c.self.inside.slots.items c.self.inside.lasts.items c.self.inside.opens c.self.inside.stands c.args.id c.index.result.now c.self.invariant (lies-of _ _ _ within c.index.ensures))

pub move_head-requires-2-clause-chained : goal.move_head-requires-2-clause-chained
move_head-requires-2-clause-chained c =
    let within = here-within c.self.inside.slots.items c.args.id (ap (λ (f : FrontierView). has_id c.args.id f.nodes) c.self.view_is ∙ c.requires) in
    let w = write-of c.self.inside.slots.items c.deref-3.result.now c.args.id c.index_mut.result.now _ Gone c.index_mut.result.now.taker within c.index_mut.ensures.value c.note_gone.ensures c.deref-3.ensures.value in
    subst (AreChained (ranks_of c.deref-3.result.now) (links_of c.deref-3.result.now)) (sym c.deref-4.ensures.value)
    (chained-after c.self.inside.slots.items c.deref-3.result.now c.self.inside.lasts.items c.self.invariant.chained (write-changed _ _ _ _ _ _ w))

pub move_head-requires-2-clause-head : goal.move_head-requires-2-clause-head
move_head-requires-2-clause-head c =
    let within = here-within c.self.inside.slots.items c.args.id (ap (λ (f : FrontierView). has_id c.args.id f.nodes) c.self.view_is ∙ c.requires) in
    let w = write-of c.self.inside.slots.items c.deref-3.result.now c.args.id c.index_mut.result.now _ Gone c.index_mut.result.now.taker within c.index_mut.ensures.value c.note_gone.ensures c.deref-3.ensures.value in
    head-ranked among.All c.self.inside.slots.items c.deref-3.result.now c.self.inside.stands c.index.result.now.rank c.self.invariant.heads (write-changed _ _ _ _ _ _ w)

pub move_head-requires-2-clause-there : goal.move_head-requires-2-clause-there
move_head-requires-2-clause-there c =
    let within = here-within c.self.inside.slots.items c.args.id (ap (λ (f : FrontierView). has_id c.args.id f.nodes) c.self.view_is ∙ c.requires) in
    let lt = rank-within c.self.inside.slots.items c.self.inside.lasts.items c.self.inside.opens c.self.inside.stands c.args.id c.index.result.now c.self.invariant (lies-of _ _ _ within c.index.ensures) in
    let same = c.self.invariant.ranks in omega (arith, lt, same)

pub move_head-requires-2-clause-ranks : goal.move_head-requires-2-clause-ranks
move_head-requires-2-clause-ranks c =
    let within = here-within c.self.inside.slots.items c.args.id (ap (λ (f : FrontierView). has_id c.args.id f.nodes) c.self.view_is ∙ c.requires) in
    subst (λ xs. c.index.result.now.rank < length xs) (sym c.deref-4.ensures.value)
    (rank-within c.self.inside.slots.items c.self.inside.lasts.items c.self.inside.opens c.self.inside.stands c.args.id c.index.result.now c.self.invariant (lies-of _ _ _ within c.index.ensures))

pub invariant_of-self : goal.invariant_of-self
invariant_of-self c =
    let within = here-within c.self.inside.slots.items c.args.id (ap (λ (f : FrontierView). has_id c.args.id f.nodes) c.self.view_is ∙ c.requires) in
    let w = write-of c.self.inside.slots.items _ c.args.id c.index_mut.result.now _ Gone c.index_mut.result.now.taker within c.index_mut.ensures.value c.note_gone.ensures refl in
    let same = read-same c.self.inside.slots.items c.args.id c.index.result.now c.index_mut.result.now within c.index.ensures w.lies in
    leave-kept _ _ _ _ _ _ _ c.index.result.now.rank _ _ _ c.self.invariant w (ap (λ (s : Slot). s.rank) same)
    (subst (λ (xs : List Slot). HeadMoved c.index.result.now.rank (keys among.Open xs) c.self.inside.opens c.move_head.new.heads) c.deref.ensures.value c.move_head.ensures)
    (subst (λ (xs : List Slot). HeadMoved c.index.result.now.rank (keys among.All xs) c.self.inside.stands c.move_head-2.new.heads) c.deref-3.ensures.value c.move_head-2.ensures)

pub returns-clause-nodes : goal.returns-clause-nodes
returns-clause-nodes c =
    let within = here-within c.self.inside.slots.items c.args.id (ap (λ (f : FrontierView). has_id c.args.id f.nodes) c.self.view_is ∙ c.requires) in
    let w = write-of c.self.inside.slots.items _ c.args.id c.index_mut.result.now _ Gone c.index_mut.result.now.taker within c.index_mut.ensures.value c.note_gone.ensures refl in
    leave-nodes _ _ _ _ _ w ∙ ap (λ (f : FrontierView). without c.args.id f.nodes) c.self.view_is
