use Rattle.std.proofs.Common.{refl, ◌∙◌, sym, ap, ◌<◌, ◌≤◌, length, rules, arith}
use Rattle.std.proofs.lemmas.Bool.{ne_eqb}
use Rattle.std.proofs.lemmas.Option.{slice_get_read}
use Rattle.node_state.specs.Candidates.{is_fact}
use Rattle.node_state.proofs.Granting.{entered, entered-none}
use Rattle.node_state.proofs.wants.enter.Goals as goal

pub returns-then-index-len : goal.returns-then-index-len
returns-then-index-len c =
    let below : c.in-Some.fact < length c.args.rows.now.items = search rules in
    entered c.args.problem.now c.args.action c.in-Some.fact c.args.rows.now.items c.index_mut.result.now c.insert.new.self c.requires.inside (sym c.want_of.ensures ∙ c.in-Some.is) below
    (slice_get_read c.args.rows.now.items (length c.args.rows.now.items) c.in-Some.fact c.index_mut.result.now refl below c.index_mut.ensures.value) c.insert.ensures.width c.insert.ensures.has c.requires.below

pub returns-else-index-len : goal.returns-else-index-len
returns-else-index-len c =
    let above : length c.args.rows.now.items ≤ c.in-Some.fact = search rules in
    entered-none c.args.problem.now c.args.action c.args.rows.now.items
    (λ g below. ap (is_fact g) (sym c.want_of.ensures ∙ c.in-Some.is) ∙ ne_eqb c.in-Some.fact g (λ s. omega (arith, below, above, s))) c.requires.below

pub returns-in_default : goal.returns-in_default
returns-in_default c = entered-none c.args.problem.now c.args.action c.args.rows.now.items (λ g below. ap (is_fact g) (sym c.want_of.ensures ∙ c.in_default.is)) c.requires.below
