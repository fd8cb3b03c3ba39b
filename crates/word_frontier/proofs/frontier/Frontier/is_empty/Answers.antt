use Rattle.std.proofs.Common.{◌∙◌, ap}
use Rattle.tp_spec.specs.Lists.{is_empty}
use Rattle.word_frontier.specs.Nodes.{FrontierView}
use Rattle.word_frontier.proofs.Keeping.{best-node, none-stand, is_empty-none, is_empty-some}
use Rattle.word_frontier.proofs.frontier.Frontier.is_empty.Goals as goal

pub returns-in-Some : goal.returns-in-Some
returns-in-Some c =
    let l = best-node c.self.inside.slots.items c.self.inside.lasts.items c.self.inside.opens c.self.inside.stands _ _ c.self.invariant c.in-Some.ensures in
    is_empty-some _ l.0 l.1.0.there ∙ ap (λ (f : FrontierView). is_empty f.nodes) c.self.view_is

pub returns-in-None : goal.returns-in-None
returns-in-None c =
    is_empty-none _ (none-stand c.self.inside.slots.items c.self.inside.lasts.items c.self.inside.opens c.self.inside.stands c.self.invariant c.in-None.ensures) ∙ ap (λ (f : FrontierView). is_empty f.nodes) c.self.view_is
