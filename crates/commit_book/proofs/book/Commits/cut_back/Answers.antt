use Rattle.std.proofs.Common.{sym, subst}
use Rattle.tp_laws.specs.Plans.{AreInTurn}
use Rattle.commit_book.proofs.Turns.{fewer-in-turn}
use Rattle.commit_book.proofs.book.Commits.cut_back.Goals as goal

pub invariant_of-self : goal.invariant_of-self
invariant_of-self c = subst AreInTurn (sym c.truncate.ensures.items) (fewer-in-turn c.args.count c.self.inside.acts.items c.self.invariant)
