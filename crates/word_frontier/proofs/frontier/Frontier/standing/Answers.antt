use Rattle.std.proofs.Common.{sym, subst, ap, arith}
use Rattle.tp_spec.specs.Lists.{IsIn}
use Rattle.word_frontier.specs.Nodes.{FrontierView}
use Rattle.word_frontier.proofs.Keeping.{tells-of}
use Rattle.word_frontier.proofs.frontier.Frontier.standing.Goals as goal

pub index-slot-requires : goal.index-slot-requires
index-slot-requires c = let made = ap (λ (f : FrontierView). f.made) c.self.view_is in let h = c.requires in omega (arith, made, h)

pub returns : goal.returns
returns c = λ n h e.
    tells-of c.self.inside.slots.items n c.args.id c.index-slot.result.now (subst (λ (f : FrontierView). IsIn n f.nodes) (sym c.self.view_is) h) e c.index-slot.ensures
