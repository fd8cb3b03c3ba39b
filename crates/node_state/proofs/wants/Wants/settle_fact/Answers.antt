use Rattle.std.proofs.Common.{◌≡◌, refl, ◌∙◌, sym, ap, subst, ℕ, length, ◌<◌, ◌≤◌, Some, slice_get, List}
use Rattle.std.proofs.lemmas.Bool.{ltb-false, ltb-true}
use Rattle.std.proofs.lemmas.Option.{slice_get_read}
use Rattle.world_state.specs.declared.rows.BitRow.{BitRow}
use Rattle.node_state.proofs.Granting.{row-beyond, row-settled}
use Rattle.node_state.proofs.wants.Wants.settle_fact.Goals as goal

pub returns-in-None : goal.returns-in-None
returns-in-None c = λ facts h.
    let same : length c.deref.result.now ≡ length c.args.problem.now.facts = ap length c.deref.ensures.value ∙ c.requires.wants.count in
    let above : length c.args.problem.now.facts ≤ c.args.fact = subst (λ (n : ℕ). n ≤ c.args.fact) same (ltb-false c.args.fact (length c.deref.result.now) (sym c.in-None.ensures.lookup.0)) in
    row-beyond c.args.problem.now facts c.args.fact c.args.holds c.args.row.now above h

pub returns-in-Some : goal.returns-in-Some
returns-in-Some c = λ facts h.
    let below : c.args.fact < length c.deref.result.now = ltb-true c.args.fact (length c.deref.result.now) (sym c.in-Some.ensures.lookup.0) in
    let got : slice_get c.args.self.now.rows.items c.args.fact ≡ Some c.in-Some.wanting.now =
    ap (λ (xs : List BitRow). slice_get xs c.args.fact) (sym c.deref.ensures.value) ∙ slice_get_read c.deref.result.now (length c.deref.result.now) c.args.fact c.in-Some.wanting.now refl below c.in-Some.ensures.lookup.1 in
    row-settled c.args.problem.now facts c.args.fact c.args.holds c.args.row.now c.in-Some.wanting.now c.change.new.row (c.requires.wants.has c.args.fact c.in-Some.wanting.now got) c.change.ensures.wide c.change.ensures.has h
