use Rattle.std.proofs.Common.{◌≡◌, ◌<◌, ◌++◌, ℕ, List, [], length, get_or, ap, subst, ◌∙◌}
use Rattle.std.specs.List.{flat_map}
use Rattle.pddl_domain.specs.declared.domain.Schema.{Schema}
use Rattle.grounder.specs.Sources.{source_of}
use Rattle.grounder.specs.Kept.{kept}
use Rattle.grounder.specs.Naming.{action_fluents, schema_fluents}
use Rattle.grounder.proofs.Steps.{gather_step, row_of}
use Rattle.grounder.proofs.naming.actions_fluents.Goals as goal

pub loop-number-preserved : goal.loop-number-preserved
loop-number-preserved c =
    let s = source_of c.args.start.now.source in
    let acts = c.args.start.now.source.domain.now.actions in
    let same = c.as_slice-schema-items.ensures in
    let P : List Schema → Type 0 = λ xs. c.loop-number.number < length xs in
    let inside = subst P same c.loop-number-test.true in
    let item = c.schema-item.result in
    let here : item ≡ get_or acts c.loop-number.number item = c.schema-item.is ∙ ap (λ (xs : List Schema). get_or xs c.loop-number.number item) same in
    gather_step (schema_fluents s) acts c.loop-number.number item [] c.loop-number.names c.in_ok-names.names
    inside
    here
    c.loop-number.invariant
    (c.in_ok-names.ensures
    ∙ ap (λ (rows : List (List ℕ)). c.loop-number.names ++ flat_map (action_fluents s item) rows)
    (c.kept_at.ensures ∙ row_of (kept s) acts c.loop-number.number item c.args.all.now c.requires inside here))
