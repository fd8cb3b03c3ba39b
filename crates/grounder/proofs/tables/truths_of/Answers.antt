use Rattle.std.proofs.Common.{◌<◌, ℕ, List, [], length, get_or, string_bytes, true, ◌∙◌, ap, subst}
use Rattle.std.specs.Str.{bytes_eq}
use Rattle.std.specs.BTreeSet.{contains_text}
use Rattle.std.proofs.lemmas.Map.Text.{btree_set_updates_text}
use Rattle.pddl_meaning.specs.declared.terms.Atom.{Atom}
use Rattle.grounder.specs.Sources.{source_of, atom_name}
use Rattle.grounder.proofs.Steps.{any_step}
use Rattle.grounder.proofs.tables.truths_of.Goals as goal

pub loop-atom-preserved : goal.loop-atom-preserved
loop-atom-preserved c name =
    let same = c.as_slice-atom-items.ensures in
    let P : List Atom → Type 0 = λ xs. c.loop-atom.atom-index < length xs in
    let text = string_bytes c.in_ok-name.name in
    any_step (λ (a : Atom). bytes_eq (atom_name (source_of c.args.source.now) [] a) name) c.args.source.now.task.now.init c.loop-atom.atom-index c.atom-item.result (bytes_eq text name) (contains_text c.loop-atom.names name) (contains_text c.insert.new.self name)
    (subst P same c.loop-atom-test.true)
    (c.atom-item.is ∙ ap (λ (xs : List Atom). get_or xs c.loop-atom.atom-index c.atom-item.result) same)
    (ap (λ (t : List ℕ). bytes_eq t name) c.in_ok-name.ensures)
    (c.loop-atom.invariant name)
    (btree_set_updates_text text c.loop-atom.names c.insert.new.self true c.in-Ok.ensures.updates name)
