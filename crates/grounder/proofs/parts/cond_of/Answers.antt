use Rattle.std.proofs.Common.{ℕ, ap, sym, ◌∙◌}
use Rattle.tp_spec.specs.declared.problem.Cond.TheVariants.{Lit}
use Rattle.grounder.specs.Sources.{source_of}
use Rattle.grounder.specs.Parts.{cond_of}
use Rattle.grounder.proofs.parts.cond_of.Goals as goal

pub returns-in_ok-fact-in-Lit : goal.returns-in_ok-fact-in-Lit
returns-in_ok-fact-in-Lit c =
    ap (λ (n : ℕ). Lit n c.in-Lit.positive) c.in_ok-fact-in-Lit.ensures
    ∙ ap (cond_of (source_of c.args.start.now.source) c.args.numbering.now.facts c.args.numbering.now.fluents c.args.in_goal c.args.objects.now) (sym c.in-Lit.is)
