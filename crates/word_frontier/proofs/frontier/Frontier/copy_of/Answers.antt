use Rattle.std.proofs.Common.{◌∙◌, ◌<◌, List, sym, ap, subst, length, arith}
use Rattle.word_frontier.specs.declared.slot.Slot.{Slot}
use Rattle.word_frontier.specs.Nodes.{FrontierView, IsCopy, has_id}
use Rattle.word_frontier.proofs.Keeping.{here-within, copy-is, word-at}
use Rattle.word_frontier.proofs.frontier.Frontier.copy_of.Goals as goal

pub word-requires-clause-there : goal.word-requires-clause-there
word-requires-clause-there c =
    subst (λ (xs : List Slot). c.args.id < length xs) (sym c.deref.ensures.value) (here-within c.self.inside.slots.items c.args.id (ap (λ (f : FrontierView). has_id c.args.id f.nodes) c.self.view_is ∙ c.requires))

pub index-slot-requires : goal.index-slot-requires
index-slot-requires c = let h = here-within c.self.inside.slots.items c.args.id (ap (λ (f : FrontierView). has_id c.args.id f.nodes) c.self.view_is ∙ c.requires) in omega (arith, h)

pub returns : goal.returns
returns c =
    subst (λ (f : FrontierView). IsCopy f.nodes c.args.id c.new.result) c.self.view_is
    (copy-is c.self.inside.slots.items c.args.id c.index-slot.result.now c.new.result (ap (λ (f : FrontierView). has_id c.args.id f.nodes) c.self.view_is ∙ c.requires)
    (c.new.ensures.word ∙ c.of.ensures ∙ c.in_ok-word.ensures ∙ ap (λ (xs : List Slot). word-at xs c.args.id) c.deref.ensures.value)
    (c.new.ensures.rank ∙ ap (λ (s : Slot). s.rank) c.index-slot.ensures)
    (c.new.ensures.deadline ∙ ap (λ (s : Slot). s.deadline) c.index-slot.ensures))
