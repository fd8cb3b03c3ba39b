use Rattle.std.proofs.Common.{ℕ, Bool, ap, sym, ◌∙◌}
use Rattle.tp_spec.specs.declared.expr.Expr.{Expr}
use Rattle.tp_spec.specs.declared.problem.Effect.TheVariants.{Add, Delete, Change}
use Rattle.pddl_meaning.specs.declared.changes.Change.TheVariants.{Lit}
use Rattle.grounder.specs.Sources.{source_of, call_name}
use Rattle.grounder.specs.Parts.{number_in, effect_of}
use Rattle.grounder.proofs.parts.effect_of.Goals as goal

pub returns-then-positive : goal.returns-then-positive
returns-then-positive c =
    let e = effect_of (source_of c.args.start.now.source) c.args.numbering.now.facts c.args.numbering.now.fluents c.args.objects.now in
    ap Add c.in_ok-fact-in-Lit.ensures
    ∙ ap (λ (b : Bool). e (Lit b c.in-Lit.atom)) (sym c.if-positive.true)
    ∙ ap e (sym c.in-Lit.is)

pub returns-else-positive : goal.returns-else-positive
returns-else-positive c =
    let e = effect_of (source_of c.args.start.now.source) c.args.numbering.now.facts c.args.numbering.now.fluents c.args.objects.now in
    ap Delete c.in_ok-fact-in-Lit.ensures
    ∙ ap (λ (b : Bool). e (Lit b c.in-Lit.atom)) (sym c.if-positive.false)
    ∙ ap e (sym c.in-Lit.is)

pub returns-in_ok-value-in-Update : goal.returns-in_ok-value-in-Update
returns-in_ok-value-in-Update c =
    let s = source_of c.args.start.now.source in
    let fluents = c.args.numbering.now.fluents in
    let e = effect_of s c.args.numbering.now.facts fluents c.args.objects.now in
    ap (λ (n : ℕ). Change c.in-Update.how n c.in_ok-value-in-Update.value) c.in_ok-fluent-in-Update.ensures
    ∙ ap (λ (v : Expr). Change c.in-Update.how (number_in fluents (call_name s c.args.objects.now c.in-Update.target)) v) c.in_ok-value-in-Update.ensures
    ∙ ap e (sym c.in-Update.is)
