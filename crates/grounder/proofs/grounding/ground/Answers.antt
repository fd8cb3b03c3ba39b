use Rattle.std.proofs.Common.{Err, ap, sym, subst, ◌∙◌}
use Rattle.tp_spec.specs.WellFormed.{IsWellFormed, Ground}
use Rattle.grounder.specs.Sources.{Source}
use Rattle.grounder.specs.Grounded.{problem_of, excess, IsJudged}
use Rattle.grounder.proofs.grounding.ground.Goals as goal

pub returns-in-Err-clause-judged : goal.returns-in-Err-clause-judged
returns-in-Err-clause-judged c =
    let P : Source → Type 0 = λ s. IsJudged {A = Ground} (excess s) (Err c.in-Err.fault) in
    subst P c.in_ok-start.ensures c.in-Err.ensures.judged

pub into_problem-requires : goal.into_problem-requires
into_problem-requires c =
    let P : Ground → Type 0 = λ p. IsWellFormed p in
    let none = ap excess (sym c.in_ok-start.ensures) ∙ c.in-Ok.ensures.judged in
    subst P (sym (c.in_ok-parts-in-Ok.ensures ∙ ap (problem_of c.args.scale) c.in_ok-start.ensures)) (c.requires.keeps none)

pub returns-clause-problem : goal.returns-clause-problem
returns-clause-problem c =
    c.into_problem.ensures ∙ c.in_ok-parts-in-Ok.ensures ∙ ap (problem_of c.args.scale) c.in_ok-start.ensures

pub returns-clause-judged : goal.returns-clause-judged
returns-clause-judged c = ap excess (sym c.in_ok-start.ensures) ∙ c.in-Ok.ensures.judged
