use Rattle.std.proofs.Common.{◌∙◌, sym, ap, subst, arith}
use Rattle.tp_spec.specs.Lists.{IsIn}
use Rattle.word_frontier.specs.Nodes.{FrontierView, IsLeast}
use Rattle.word_frontier.proofs.Keeping.{none-stand, best-node, node-within}
use Rattle.word_frontier.proofs.frontier.Frontier.best.Goals as goal

pub returns-in_default : goal.returns-in_default
returns-in_default c =
    sym (ap (λ (f : FrontierView). f.nodes) c.self.view_is) ∙ none-stand c.self.inside.slots.items c.self.inside.lasts.items c.self.inside.opens c.self.inside.stands c.self.invariant c.in_default.ensures

pub standing-requires : goal.standing-requires
standing-requires c =
    let l = best-node c.self.inside.slots.items c.self.inside.lasts.items c.self.inside.opens c.self.inside.stands c.in-Some.field-0-0 c.in-Some.id c.self.invariant c.in-Some.ensures in
    let h = node-within c.self.inside.slots.items l.0 c.in-Some.id l.1.0.there l.1.1.0 in let made = ap (λ (f : FrontierView). f.made) c.self.view_is in omega (arith, h, made)

pub returns : goal.returns
returns c =
    let l = best-node c.self.inside.slots.items c.self.inside.lasts.items c.self.inside.opens c.self.inside.stands c.in-Some.field-0-0 c.in-Some.id c.self.invariant c.in-Some.ensures in
    (l.0, subst (λ (f : FrontierView). IsLeast f.nodes l.0) c.self.view_is l.1.0, c.standing.ensures l.0 (subst (λ (f : FrontierView). IsIn l.0 f.nodes) c.self.view_is l.1.0.there) l.1.1.0)
