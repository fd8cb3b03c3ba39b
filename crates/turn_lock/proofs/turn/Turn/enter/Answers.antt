use Rattle.std.proofs.Common.{◌∙◌, ℕ, List, ◌∷◌, Some, Option, sym, ap, arith}
use Rattle.atomic_table.specs.Table.{rest}
use Rattle.turn_lock.proofs.Moves.{counts}
use Rattle.turn_lock.proofs.turn.Turn.enter.Goals as goal

pub load-count-requires : goal.load-count-requires
load-count-requires g c = (
  c.wait.ensures.same.0 ∙ (c.draw-ticket.ensures.same.0 ∙ (ap (λ p. p.table_id) c.take_apart-parts.ensures.1 ∙ c.requires.table)),
  omega (arith, c.args.self.now.sized.0),
  counts g.V.Story.entries g.V.Story.same_charter _ _ _ _ _ _ (ap (λ m. m.0.stage) c.wait.ensures.taken.me),
)

pub exchange-requires : goal.exchange-requires
exchange-requires g c =
    let there = ap (λ m. m.1) (c.load-count.ensures.2.1 ∙ c.wait.ensures.taken.me) in (
      c.load-count.ensures.0 ∙ (c.wait.ensures.same.0 ∙ (c.draw-ticket.ensures.same.0 ∙ (ap (λ p. p.table_id) c.take_apart-parts.ensures.1 ∙ c.requires.table))),
      (Some c.wait.ensures.taken.value, there ∙ ap (λ (xs : List (ℕ × Option g.row.V.Denot)). (0, Some c.wait.ensures.taken.value) ∷ xs) (sym (ap rest there))),
    )
