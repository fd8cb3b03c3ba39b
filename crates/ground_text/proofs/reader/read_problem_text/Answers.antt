use Rattle.std.proofs.Common.{◌≡◌, sym, ap, subst, ◌∙◌, List, ℕ}
use Rattle.std.proofs.lemmas.Bool.{false≢true}
use Rattle.tp_spec.specs.WellFormed.{Ground, IsWellFormed}
use Rattle.problem_rules.specs.Parts.{ground_of}
use Rattle.ground_text.specs.Texts.{problem_text}
use Rattle.ground_text.specs.Reading.{parts_at}
use Rattle.ground_text.proofs.Blocks.{parts_again}
use Rattle.ground_text.proofs.Kept.{ranged}
use Rattle.ground_text.proofs.reader.read_problem_text.Goals as goal

-- what was read of the text of p is p
is_read : (read p : Ground) (text : List ℕ) → read ≡ parts_at text → text ≡ problem_text p → IsWellFormed p → read ≡ p
is_read read p text r e is = r ∙ ap parts_at e ∙ parts_again p (ranged p is)

pub returns-then-not-formed-clause-only : goal.returns-then-not-formed-clause-only
returns-then-not-formed-clause-only c = λ p is e.
    let read = is_read (ground_of c.in_ok-parts.parts) p c.args.text.now c.in_ok-parts.ensures e is in
    absurd (false≢true (sym c.if-not-formed.true ∙ c.in_ok-formed.ensures.no (subst IsWellFormed (sym read) is)))

pub returns-then-same_bytes-clause-only : goal.returns-then-same_bytes-clause-only
returns-then-same_bytes-clause-only c = λ p is e.
    c.into_problem-problem.ensures ∙ is_read (ground_of c.in_ok-parts.parts) p c.args.text.now c.in_ok-parts.ensures e is

pub returns-in_ok-fault_line-2-clause-only : goal.returns-in_ok-fault_line-2-clause-only
returns-in_ok-fault_line-2-clause-only c = λ p is e.
    let read = c.into_problem-problem.ensures ∙ is_read (ground_of c.in_ok-parts.parts) p c.args.text.now c.in_ok-parts.ensures e is in
    let same = c.as_slice.ensures.value ∙ c.in_ok-written.ensures ∙ ap problem_text read ∙ sym e in
    absurd (false≢true (sym c.if-same_bytes.false ∙ c.same_bytes.ensures.no same))

pub returns-then-same_bytes-clause-formed : goal.returns-then-same_bytes-clause-formed
returns-then-same_bytes-clause-formed c =
    subst IsWellFormed (sym c.into_problem-problem.ensures) (c.in_ok-formed.ensures.yes c.if-not-formed.false)
