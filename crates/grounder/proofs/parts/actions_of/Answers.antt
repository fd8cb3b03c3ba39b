use Rattle.std.proofs.Common.{◌≡◌, ◌<◌, ◌++◌, ℕ, List, [], length, map, get_or, ap, subst, ◌∙◌}
use Rattle.pddl_domain.specs.declared.domain.Schema.{Schema}
use Rattle.grounder.specs.Sources.{source_of}
use Rattle.grounder.specs.Kept.{kept}
use Rattle.grounder.specs.Parts.{action_of, schema_actions}
use Rattle.grounder.proofs.Steps.{gather_step, row_of}
use Rattle.grounder.proofs.parts.actions_of.Goals as goal

pub loop-number-preserved : goal.loop-number-preserved
loop-number-preserved c =
    let s = source_of c.args.start.now.source in
    let facts = c.args.numbering.now.facts in
    let fluents = c.args.numbering.now.fluents in
    let acts = c.args.start.now.source.domain.now.actions in
    let same = c.as_slice-schema-items.ensures in
    let P : List Schema → Type 0 = λ xs. c.loop-number.number < length xs in
    let inside = subst P same c.loop-number-test.true in
    let item = c.schema-item.result in
    let here : item ≡ get_or acts c.loop-number.number item = c.schema-item.is ∙ ap (λ (xs : List Schema). get_or xs c.loop-number.number item) same in
    gather_step (schema_actions s facts fluents) acts c.loop-number.number item [] c.loop-number.actions c.in_ok-actions.actions
    inside
    here
    c.loop-number.invariant
    (c.in_ok-actions.ensures
    ∙ ap (λ (rows : List (List ℕ)). c.loop-number.actions ++ map (action_of s facts fluents item) rows)
    (c.kept_at-kept.ensures ∙ row_of (kept s) acts c.loop-number.number item c.args.all.now c.requires inside here))
