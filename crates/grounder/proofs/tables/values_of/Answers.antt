use Rattle.std.proofs.Common.{◌<◌, ℕ, ℤ, List, length, get_or, string_bytes, cond, Some, ◌∙◌, ap, subst, w64}
use Rattle.std.proofs.lemmas.Int.{to_z-of_z}
use Rattle.std.specs.Str.{bytes_eq}
use Rattle.std.specs.BTreeMap.{get_by_text}
use Rattle.pddl_problem.specs.declared.task.Given.{Given}
use Rattle.grounder.specs.Sources.{source_of}
use Rattle.grounder.proofs.Steps.{given_step}
use Rattle.grounder.proofs.tables.values_of.Goals as goal

pub loop-given-preserved : goal.loop-given-preserved
loop-given-preserved c name =
    let same = c.as_slice-given-items.ensures in
    let P : List Given → Type 0 = λ xs. c.loop-given.given-index < length xs in
    let text = string_bytes c.in_ok-name.name in
    given_step (source_of c.args.source.now) name c.args.source.now.task.now.values c.loop-given.given-index c.given-item.result (get_by_text c.loop-given.values name) (get_by_text c.put_value.new.values name)
    (subst P same c.loop-given-test.true)
    (c.given-item.is ∙ ap (λ (xs : List Given). get_or xs c.loop-given.given-index c.given-item.result) same)
    (c.loop-given.invariant name)
    (c.in_ok-put_value.ensures name
    ∙ ap (λ (v : ℤ). cond (bytes_eq text name) (Some v) (get_by_text c.loop-given.values name)) (to_z-of_z w64 c.value_of-value.result (record { sfits = c.value_of-value.type_inv }))
    ∙ ap (λ (v : ℤ). cond (bytes_eq text name) (Some v) (get_by_text c.loop-given.values name)) c.value_of-value.ensures
    ∙ ap (λ (t : List ℕ). cond (bytes_eq t name) (Some c.given-item.result.value) (get_by_text c.loop-given.values name)) c.in_ok-name.ensures)
