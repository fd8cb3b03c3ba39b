use Rattle.std.proofs.Common.{◌<◌, ◌≤◌, ◌&&◌, ◌==◌, ℕ, Bool, List, [], length, get_or, string_bytes, ◌∙◌, ap, subst}
use Rattle.std.specs.List.{list_any}
use Rattle.std.specs.Str.{bytes_eq}
use Rattle.std.proofs.lemmas.List.{take_all}
use Rattle.std.specs.BTreeSet.{contains_text}
use Rattle.pddl_problem.specs.declared.task.Dated.{Dated}
use Rattle.grounder.specs.Sources.{source_of, atom_name}
use Rattle.grounder.specs.Rigid.{is_so}
use Rattle.grounder.proofs.Steps.{any_step}
use Rattle.grounder.proofs.timed.dated_names.Goals as goal

pub loop-dated-preserved : goal.loop-dated-preserved
loop-dated-preserved c name =
    let same = c.as_slice-dated-items.ensures in
    let P : List Dated → Type 0 = λ xs. c.loop-dated.dated-index < length xs in
    let text = string_bytes c.in_ok-name.name in
    let test = λ (d : Dated). d.tick == c.args.tick && is_so c.args.positive d.positive && bytes_eq (atom_name (source_of c.args.start.now.source) [] d.atom) name in
    any_step test c.args.start.now.source.task.now.timed c.loop-dated.dated-index c.dated-item.result (c.is_at.result && bytes_eq text name) (contains_text c.loop-dated.names name) (contains_text c.enter.new.names name)
    (subst P same c.loop-dated-test.true)
    (c.dated-item.is ∙ ap (λ (xs : List Dated). get_or xs c.loop-dated.dated-index c.dated-item.result) same)
    (ap (λ (b : Bool). b && bytes_eq text name) c.is_at.ensures
    ∙ ap (λ (t : List ℕ). c.dated-item.result.tick == c.args.tick && is_so c.args.positive c.dated-item.result.positive && bytes_eq t name) c.in_ok-name.ensures)
    (c.loop-dated.invariant name)
    (c.in_ok-enter.ensures name)

pub returns : goal.returns
returns c name =
    let same = c.as_slice-dated-items.ensures in
    let P : List Dated → Type 0 = λ xs. length xs ≤ c.loop-dated.dated-index in
    let test = λ (d : Dated). d.tick == c.args.tick && is_so c.args.positive d.positive && bytes_eq (atom_name (source_of c.args.start.now.source) [] d.atom) name in
    c.loop-dated.invariant name
    ∙ ap (list_any test) (take_all c.loop-dated.dated-index c.args.start.now.source.task.now.timed (subst P same c.loop-dated-test.false))
