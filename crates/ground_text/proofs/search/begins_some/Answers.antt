use Rattle.std.proofs.Common.{refl, sym, ◌∙◌}
use Rattle.std.proofs.lemmas.Result.{IfOk-weaker}
use Rattle.ground_text.specs.Texts.{problem_text}
use Rattle.ground_text.specs.Filling.{filled_ground}
use Rattle.ground_text.proofs.FilledNames.{begins_bytes, bytes_begin}
use Rattle.ground_text.proofs.Told.{begun, unformed, not_begun, unfit}
use Rattle.ground_text.proofs.search.begins_some.Goals as goal

pub returns-in-None-clause-no : goal.returns-in-None-clause-no
returns-in-None-clause-no c = λ e. unfit c.args.count c.args.text.now _ c.first_lines-all.ensures.front (rw c.in-None.is at c.in_ok-completion.ensures)

pub returns-then-not-formed-clause-no : goal.returns-then-not-formed-clause-no
returns-then-not-formed-clause-no c = λ e.
    let done = rw c.in-Some.is at c.in_ok-completion.ensures in
    unformed c.args.count c.args.text.now _ (filled_ground c.in-Some.parts) c.first_lines-all.ensures.front done.0 (sym c.in_ok-formed-in-Some.ensures ∙ c.if-not-formed.true)

pub returns-else-not-formed-clause-yes : goal.returns-else-not-formed-clause-yes
returns-else-not-formed-clause-yes c =
    let read = filled_ground c.in-Some.parts in
    let done = rw c.in-Some.is at c.in_ok-completion.ensures in
    let has = sym c.first_lines-all.ensures.all ∙ c.if-not-all.false in
    IfOk-weaker c.filled_begins.result _ _
    (λ is fits yes. begun c.args.count c.args.text.now _ read c.first_lines-all.ensures.front done.0 read refl
    (sym c.in_ok-formed-in-Some.ensures ∙ c.if-not-formed.false) done.1 has
    (begins_bytes c.args.count (problem_text read) c.args.text.now _ c.first_lines-all.ensures.front has (fits yes)))
    c.filled_begins.ensures.yes

pub returns-else-not-formed-clause-no : goal.returns-else-not-formed-clause-no
returns-else-not-formed-clause-no c =
    let read = filled_ground c.in-Some.parts in
    let done = rw c.in-Some.is at c.in_ok-completion.ensures in
    IfOk-weaker c.filled_begins.result _ _
    (λ is fits none. not_begun c.args.count c.args.text.now _ read c.first_lines-all.ensures.front done.0 read refl is
    (λ s. fits (bytes_begin c.args.count (problem_text read) _ s)) none)
    c.filled_begins.ensures.no
