use Rattle.std.proofs.Common.{sym, ap, ◌∙◌}
use Rattle.open_tree.proofs.Keeping.{keeps_stop}
use Rattle.open_tree.proofs.Turns.{halted-whole, halted-settled}
use Rattle.open_tree.proofs.tree.Tree.halt.Goals as goal

pub invariant_of-self : goal.invariant_of-self
invariant_of-self g c = (
  keeps_stop c.args.cause (sym c.is_over.ensures ∙ c.if-is_over.false) c.self.invariant.0 (ap (λ p. p.scale) c.halt.ensures.task.problem) c.halt.ensures.halted,
  halted-settled _ _ _ _ c.args.cause c.halt.ensures.halted,
  c.self.invariant.2,
)

pub returns-clause-whole : goal.returns-clause-whole
returns-clause-whole g c = halted-whole _ c.self.inside.run.history c.args.cause c.stands-2.ensures.stands c.halt.ensures.halted
