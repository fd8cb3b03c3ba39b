use Rattle.std.proofs.Common.{sym, subst}
use Rattle.commit_book.specs.Commits.{IsLater}
use Rattle.commit_book.proofs.Turns.{added-in-turn}
use Rattle.commit_book.proofs.book.Commits.add.Goals as goal

pub invariant_of-self : goal.invariant_of-self
invariant_of-self c = added-in-turn _ c.self.inside.acts.items _ c.args.act c.push.ensures.items c.self.invariant (subst (λ xs. IsLater xs c.args.act) (sym c.self.view_is) c.requires)
