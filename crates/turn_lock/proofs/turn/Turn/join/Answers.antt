use Rattle.std.proofs.Common.{◌≤◌, ◌∙◌, length, sym, ap, subst, arith}
use Rattle.turn_lock.proofs.Shares.{joins, agrees, shorter_length}
use Rattle.turn_lock.proofs.turn.Turn.join.Goals as goal

pub join_seat-requires : goal.join_seat-requires
join_seat-requires g c =
    let into = c.take_apart-parts.ensures.1 in
    let other = c.take_apart-more.ensures.1 in (
      ap (λ p. p.table_id) into ∙ c.requires.into.table,
      ap (λ p. p.table_id) other ∙ c.requires.other.table,
      ap (λ p. p.me.1) other ∙ c.requires.other.free,
      omega (arith, c.args.self.now.sized.0),
      joins g.V.Story.entries g.V.Story.same_charter _ _ _ _ _ _
          (ap (λ p. p.me.0.stage) into ∙ c.requires.into.idle)
          (ap (λ p. p.me.0.stage) other ∙ c.requires.other.idle)
          (omega (arith, ap (λ p. p.me.0.parts) into, c.requires.into.parts, c.requires.into.some_parts)),
    )

pub load-requires : goal.load-requires
load-requires g c =
    let into = c.take_apart-parts.ensures.1 in
    let joined = c.join_seat.ensures.2 in (
      c.join_seat.ensures.0 ∙ (ap (λ p. p.table_id) into ∙ c.requires.into.table),
      omega (arith, c.args.self.now.sized.0),
      agrees g.V.Story.entries g.V.Story.same_charter _ _ _ _ _
          (ap (λ m. m.0.stage) joined ∙ (ap (λ p. p.me.0.stage) into ∙ c.requires.into.idle))
          (subst (λ m. length m.0.joined ≤ length m.0.seen) (sym joined) (shorter_length c.take_apart-parts.result.1.me.0.seen c.take_apart-more.result.1.me.0.seen)),
    )
