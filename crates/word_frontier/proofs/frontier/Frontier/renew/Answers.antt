use Rattle.std.proofs.Common.{◌∙◌, refl, ap, map, arith}
use Rattle.word_frontier.specs.Nodes.{FrontierView, has_id, renewed}
use Rattle.word_frontier.proofs.Keeping.{here-within, renewal-of, renewal-kept, renewal-nodes}
use Rattle.word_frontier.proofs.frontier.Frontier.renew.Goals as goal

pub index_mut-requires : goal.index_mut-requires
index_mut-requires c = let h = here-within c.self.inside.slots.items c.args.id (ap (λ (f : FrontierView). has_id c.args.id f.nodes) c.self.view_is ∙ c.requires) in omega (arith, h)

pub invariant_of-self : goal.invariant_of-self
invariant_of-self c =
    let within = here-within c.self.inside.slots.items c.args.id (ap (λ (f : FrontierView). has_id c.args.id f.nodes) c.self.view_is ∙ c.requires) in
    renewal-kept _ _ _ _ _ _ _ _ c.self.invariant (renewal-of c.self.inside.slots.items _ c.args.id _ _ c.args.deadline c.args.known within c.index_mut.ensures.value c.note_deadline.ensures refl)

pub returns-clause-nodes : goal.returns-clause-nodes
returns-clause-nodes c =
    let there = ap (λ (f : FrontierView). has_id c.args.id f.nodes) c.self.view_is ∙ c.requires in
    let within = here-within c.self.inside.slots.items c.args.id there in
    renewal-nodes _ _ _ _ _ there (renewal-of c.self.inside.slots.items _ c.args.id _ _ c.args.deadline c.args.known within c.index_mut.ensures.value c.note_deadline.ensures refl)
    ∙ ap (λ (f : FrontierView). map (renewed c.args.id c.args.deadline c.args.known) f.nodes) c.self.view_is
