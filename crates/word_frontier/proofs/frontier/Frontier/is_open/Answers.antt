use Rattle.std.proofs.Common.{◌∙◌, sym, ap, subst, ◌≡◌, length, ◌≤◌, Some}
use Rattle.std.specs.List.{slice_get}
use Rattle.word_frontier.specs.Nodes.{FrontierView, has_id, open_nodes}
use Rattle.word_frontier.proofs.Keeping.{open-none, open-some}
use Rattle.word_frontier.proofs.Places.{lies-of}
use Rattle.word_frontier.proofs.frontier.Frontier.is_open.Goals as goal

pub returns-in-None : goal.returns-in-None
returns-in-None c =
    sym (open-none c.self.inside.slots.items c.args.id (subst (λ xs. length xs ≤ c.args.id) c.deref.ensures.value c.in-None.ensures.lookup.3))
    ∙ ap (λ (f : FrontierView). has_id c.args.id (open_nodes f.nodes)) c.self.view_is

pub returns-in-Some : goal.returns-in-Some
returns-in-Some c =
    let lies = lies-of c.deref.result.now c.args.id c.in-Some.slot.now c.in-Some.ensures.lookup.3.0 c.in-Some.ensures.lookup.1 in
    c.is_among.ensures
    ∙ sym (open-some c.self.inside.slots.items c.args.id c.in-Some.slot.now (subst (λ xs. slice_get xs c.args.id ≡ Some c.in-Some.slot.now) c.deref.ensures.value lies))
    ∙ ap (λ (f : FrontierView). has_id c.args.id (open_nodes f.nodes)) c.self.view_is
