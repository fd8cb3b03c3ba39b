use Rattle.std.proofs.Common.{rules, ◌≡◌, ◌∙◌, ap, subst, true, false, is_some, IfNone}
use Rattle.node_state.specs.Growths.{next_marks}
use Rattle.situated_machine.specs.Marked.{HasNoPlan, sight_of}
use Rattle.situated_machine.proofs.Marking.{its-children, some-spells, whole-told}
use Rattle.situated_machine.proofs.keeping.Replayer.children.Goals as goal

pub plan_of-requires-clause-whole : goal.plan_of-requires-clause-whole
plan_of-requires-clause-whole c =
    let same : c.as_slice.result.now ≡ c.as_slice-2.result.now = search rules in
    whole-told c.growth.new.self c.args.self.now c.growth.ensures.same c.as_slice.result.now c.as_slice-2.result.now same c.in_ok-growth.growth c.in_ok-growth.ensures.growth

pub returns-then-is_some-clause-none : goal.returns-then-is_some-clause-none
returns-then-is_some-clause-none c =
    let same : c.as_slice-2.result.now ≡ c.in_ok-word.word.items = search rules in
    let found : is_some c.in_ok-plan_of.field-0 ≡ true = search rules in
    some-spells c.growth.new.self c.args.self.now c.growth.ensures.same c.args.id c.as_slice-2.result.now (same ∙ c.in_ok-word.ensures.word)
    c.in_ok-plan_of.field-0 found c.in_ok-plan_of.ensures.some

pub returns-clause-some : goal.returns-clause-some
returns-clause-some c =
    let first : c.as_slice.result.now ≡ c.in_ok-word.word.items = search rules in
    let same : c.as_slice-2.result.now ≡ c.in_ok-word.word.items = search rules in
    let none : is_some c.in_ok-plan_of.field-0 ≡ false = search rules in
    let marks : c.as_slice-3.result.now ≡ c.in_ok-growth.growth.marks = search rules in
    its-children c.growth.new.self c.args.self.now c.growth.ensures.same c.args.id c.in_ok-word.word.items c.in_ok-word.ensures.word c.as_slice-3.result.now
    (marks ∙ c.in_ok-growth.ensures.growth.marks ∙ ap (next_marks c.args.self.now.problem) first) c.in_ok-plan_of.field-0 none
    (subst (λ w. IfNone c.in_ok-plan_of.field-0 (HasNoPlan (sight_of c.growth.new.self w))) same c.in_ok-plan_of.ensures.none) c.in_ok-children.children c.in_ok-children.ensures
