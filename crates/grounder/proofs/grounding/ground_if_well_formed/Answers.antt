use Rattle.std.proofs.Common.{◌≡◌, Err, Option, ap, sym, subst, ◌∙◌}
use Rattle.std.specs.Option.{IfSome}
use Rattle.tp_spec.specs.WellFormed.{IsWellFormed, Ground}
use Rattle.grounder.specs.Sources.{Source}
use Rattle.grounder.specs.Grounded.{problem_of, excess, IsJudged}
use Rattle.grounder.proofs.grounding.ground_if_well_formed.Goals as goal

pub returns-in-Err-clause-judged : goal.returns-in-Err-clause-judged
returns-in-Err-clause-judged c =
    let P : Source → Type 0 = λ s. IsJudged {A = Option Ground} (excess s) (Err c.in-Err.fault) in
    subst P c.in_ok-start.ensures c.in-Err.ensures.judged

pub returns-clause-problem : goal.returns-clause-problem
returns-clause-problem c =
    let P : Ground → Type 0 = λ g. IfSome c.in_ok-problem-in-Ok.problem (λ p. p ≡ g) in
    subst P (c.in_ok-parts-in-Ok.ensures ∙ ap (problem_of c.args.scale) c.in_ok-start.ensures) c.in_ok-problem-in-Ok.ensures.some

pub returns-clause-none : goal.returns-clause-none
returns-clause-none c = λ keeps.
    let P : Ground → Type 0 = λ p. IsWellFormed p in
    c.in_ok-problem-in-Ok.ensures.none (subst P (sym (c.in_ok-parts-in-Ok.ensures ∙ ap (problem_of c.args.scale) c.in_ok-start.ensures)) keeps)

pub returns-clause-judged : goal.returns-clause-judged
returns-clause-judged c = ap excess (sym c.in_ok-start.ensures) ∙ c.in-Ok.ensures.judged
