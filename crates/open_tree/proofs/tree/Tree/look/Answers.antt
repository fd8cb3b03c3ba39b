use Rattle.std.proofs.Common.{sym, ap, ◌≡◌, ◌∙◌, ◌++◌, ◌∷◌, [], length}
use Rattle.tp_spec.specs.declared.event.Cause.TheVariants.{Memory}
use Rattle.tp_spec.specs.declared.event.Event.TheVariants.{Halt}
use Rattle.open_tree.proofs.Keeping.{keeps_turn, keeps_halt}
use Rattle.open_tree.proofs.Turns.{halted-whole, halted-settled}
use Rattle.open_tree.proofs.tree.Tree.look.Goals as goal

pub invariant_of-self : goal.invariant_of-self
invariant_of-self g c = (
  keeps_turn c.read-reading.result (sym c.is_over.ensures ∙ c.if-is_over.false) c.self.invariant.0 c.read-reading.ensures.rate (ap (λ p. p.scale) c.in-Ok.ensures.task.problem)
      c.read-reading.ensures.count c.read-reading.ensures.given c.read-reading.ensures.reading c.read-reading.ensures.last c.in-Ok.ensures.ended.read,
  c.in-Ok.ensures.ended.settled,
  c.read-reading.ensures.begun ∙ c.self.invariant.2,
)

pub invariant_of-self-in-Err : goal.invariant_of-self-in-Err
invariant_of-self-in-Err g c =
    let more = c.in-Err.ensures.more in
    let is : c.cut_back.new.self.history ≡ c.self.inside.run.history ++ Halt Memory ∷ [] = c.cut_back.ensures.cut c.self.inside.run.history more.more more.grown (ap length (sym c.history-start.ensures)) in (
      keeps_halt (sym c.is_over.ensures ∙ c.if-is_over.false) c.self.invariant.0 c.read-reading.ensures.rate (ap (λ p. p.scale) (c.cut_back.ensures.task.problem ∙ c.in-Err.ensures.task.problem))
          c.read-reading.ensures.count c.read-reading.ensures.given is,
      halted-settled _ _ _ _ Memory is,
      c.read-reading.ensures.begun ∙ c.self.invariant.2,
    )

pub returns-in-Err-clause-whole : goal.returns-in-Err-clause-whole
returns-in-Err-clause-whole g c =
    let more = c.in-Err.ensures.more in
    halted-whole _ c.self.inside.run.history Memory c.stands-in-Err.ensures.stands (c.cut_back.ensures.cut c.self.inside.run.history more.more more.grown (ap length (sym c.history-start.ensures)))
