use Rattle.std.proofs.Common.{◌+◌, ◌∙◌, ℕ, List, ◌∷◌, length, Some, Option, sym, ap, subst, arith}
use mathlib.Core.List.{IsPrefix}
use Rattle.atomic_table.specs.Table.{rest}
use Rattle.turn_lock.specs.Told.{in_slot}
use Rattle.turn_lock.proofs.Moves.{adds, ends}
use Rattle.turn_lock.proofs.steps.end.Goals as goal

pub fetch_add-requires : goal.fetch_add-requires
fetch_add-requires g c =
    let e = c.exchange.ensures.3 in (
      c.exchange.ensures.0 ∙ c.requires.lock.0,
      omega (arith, c.requires.lock.1),
      adds g.V.Story.entries g.V.Story.same_charter _ _ _ _ _ _ c.requires.serving.0 c.args.value
          (ap (λ m. m.0.stage) e ∙ c.requires.serving.1)
          (ap (λ m. m.1) e ∙ ap (λ (xs : List (ℕ × Option g.row.V.Denot)). (0, Some c.args.value) ∷ rest xs) c.requires.slot)
          (subst (λ m. IsPrefix m.0.seen (g.V.Story.entries c.args.value)) (sym e) c.requires.longer)
          (c.requires.added ∙ ap (λ m. length m.0.seen + c.args.added) (sym e))
          c.requires.few,
    )

pub fetch_add-requires-2 : goal.fetch_add-requires-2
fetch_add-requires-2 g c =
    let e = c.exchange.ensures.3 in
    let f = c.fetch_add.ensures.2 in
    let slot = ap (λ m. m.1) e ∙ ap (λ (xs : List (ℕ × Option g.row.V.Denot)). (0, Some c.args.value) ∷ rest xs) c.requires.slot in (
      c.fetch_add.ensures.0 ∙ (c.exchange.ensures.0 ∙ c.requires.lock.0),
      omega (arith, c.requires.lock.1),
      ends g.V.Story.entries g.V.Story.same_charter _ _ _ _ _ c.requires.serving.0 c.args.value
          (ap (λ m. m.0.stage) f ∙ (ap (λ m. m.0.stage) e ∙ c.requires.serving.1))
          (ap (λ m. m.1) f ∙ slot)
          (sym (ap (λ m. m.0.seen) f ∙ ap (in_slot g.V.Story.entries) slot))
          (c.requires.charter.0, ap (λ m. m.0.opened) f ∙ (ap (λ m. m.0.opened) e ∙ c.requires.charter.1), c.requires.charter.2),
    )
