use Rattle.std.proofs.Common.{◌∙◌, length, ◌∷◌, [], Some, sym, ap, subst, arith}
use Rattle.atomic_table.specs.Table.{opening}
use Rattle.turn_lock.specs.Kept.{Kept, first_view}
use Rattle.turn_lock.proofs.Shares.{starts}
use Rattle.turn_lock.proofs.turn.Turn.new.Goals as goal

pub new-requires : goal.new-requires
new-requires g c =
    let entries = g.V.Story.entries in
    let value = c.of.result.value in
    subst (λ xs. Kept entries g.V.Story.same_charter value c.args.parts (opening (c.count-count.result ∷ 0 ∷ 0 ∷ []) xs (first_view entries value c.args.parts)))
    (sym (c.in-Ok.ensures.ok ∙ ap (λ v. Some v ∷ []) (sym c.of.ensures)))
    (starts entries g.V.Story.same_charter value c.args.parts c.count-count.result (c.count-count.ensures c.requires.few ∙ ap (λ v. length (entries v)) (sym c.of.ensures)) (omega (arith, c.ranges.parts)) (omega (arith, c.requires.parts)) (g.met.V.Story.charter_self value))
