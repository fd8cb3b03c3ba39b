use Rattle.std.proofs.Common.{◌≡◌, arith, map, length, get_or, List, ℕ, subst, sym, ◌∙◌}
use Rattle.std.specs.Prelude.{slice_index, pos, ◌+ℤ◌, ◌<ℤ◌}
use Rattle.std.proofs.lemmas.List.{length-map}
use Rattle.tick_network.specs.declared.net.Row.{Row}
use Rattle.tick_network.specs.Nets.{KeepsRow}
use Rattle.tick_network.specs.Relaxing.{turned_row, LowersTo}
use Rattle.tick_network.proofs.Looks.{seen-same, seen-lowered, empty-row}
use Rattle.tick_network.proofs.Mirrors.{no_row, turned-at, turned-ends}
use Rattle.tick_network.proofs.relax.relax_all.Goals as goal
use Rattle.tick_network.proofs.relax.relax_all.Goals.{in-Same, in-Lowered}

pub returns-in-Empty-clause-relaxes : goal.returns-in-Empty-clause-relaxes
returns-in-Empty-clause-relaxes g c =
    let rows : List Row = map (turned_row c.args.mirrored) c.args.rows.now in
    let i : ℕ = c.loop-row.row-index in
    let d : Row = turned_row c.args.mirrored no_row in
    let at : c.turned.result ≡ get_or rows i d = c.turned.ensures ∙ sym (turned-at c.args.mirrored c.args.rows.now i) in
    empty-row rows c.args.low.now c.args.at.now c.loop-row.at i d c.loop-row.lowered
    (omega (arith, length-map c.args.rows.now (turned_row c.args.mirrored)))
    c.loop-row.auto.at
    (turned-ends c.args.mirrored (length c.args.at.now) c.args.rows.now c.requires.ends i d (omega (arith, length-map c.args.rows.now (turned_row c.args.mirrored))))
    c.loop-row.invariant.seen
    (subst (λ (r : Row). (pos (slice_index c.loop-row.at r.x) +ℤ r.w) <ℤ pos (slice_index c.args.low.now r.y)) at c.in-Empty.ensures.relaxes)

pub loop-row-preserved : goal.loop-row-preserved
loop-row-preserved g c =
    let rows : List Row = map (turned_row c.args.mirrored) c.args.rows.now in
    let i : ℕ = c.loop-row.row-index in
    let d : Row = turned_row c.args.mirrored no_row in
    let at : c.turned.result ≡ get_or rows i d = c.turned.ensures ∙ sym (turned-at c.args.mirrored c.args.rows.now i) in
    elim c.match-relax_row.branch [
      | in-Same w ↦ record {
        steps = omega (arith, w.in-Same.ensures.step);
        seen = seen-same rows c.args.low.now c.args.at.now c.loop-row.at c.relax_row.new.at i d c.loop-row.lowered c.match-relax_row.lowered
            (omega (arith, length-map c.args.rows.now (turned_row c.args.mirrored)))
            c.loop-row.invariant.seen
            (w.in-Same.ensures.relaxes.0, subst (KeepsRow (slice_index c.loop-row.at)) at w.in-Same.ensures.relaxes.1)
            w.lowered-is;
      }
      | in-Lowered w ↦ record {
        steps = omega (arith, w.in-Lowered.ensures.step);
        seen = seen-lowered rows c.args.low.now c.args.at.now c.loop-row.at c.relax_row.new.at i d c.loop-row.lowered c.match-relax_row.lowered
            (omega (arith, length-map c.args.rows.now (turned_row c.args.mirrored)))
            c.loop-row.auto.at
            (turned-ends c.args.mirrored (length c.args.at.now) c.args.rows.now c.requires.ends i d (omega (arith, length-map c.args.rows.now (turned_row c.args.mirrored))))
            c.loop-row.invariant.seen
            w.in-Lowered.ensures.relaxes.0
            (subst (λ (r : Row). LowersTo r c.args.low.now c.loop-row.at c.relax_row.new.at w.in-Lowered.ensures.relaxes.0) at w.in-Lowered.ensures.relaxes.1)
            w.lowered-is;
      }
    ]
