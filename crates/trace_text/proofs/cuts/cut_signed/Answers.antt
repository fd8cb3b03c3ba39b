use Rattle.std.proofs.Common.{ap, ◌∙◌, ◌∷◌, ℕ}
use Rattle.trace_text.proofs.Seams.{if_none}
use Rattle.trace_text.proofs.Fronts.{signed_cut, signed_none, signed_empty}
use Rattle.trace_text.proofs.cuts.cut_signed.Goals as goal

pub returns-in_err-first-clause-none : goal.returns-in_err-first-clause-none
returns-in_err-first-clause-none c = if_none c.from_residual.result (signed_empty c.args.text.now c.args.sign c.args.most c.in_err-first.ensures.none)

pub returns-in_err-number-clause-none : goal.returns-in_err-number-clause-none
returns-in_err-number-clause-none c =
    if_none c.from_residual-in_err-number.result
    (signed_none c.args.text.now c.in_ok-first.rest.now c.args.sign c.args.most
    (c.in_ok-first.ensures.some ∙ ap (λ (x : ℕ). x ∷ c.in_ok-first.rest.now) c.if-first-sign.false) c.ranges.most.fits
    c.in_err-number.ensures.none)

pub returns-clause-some : goal.returns-clause-some
returns-clause-some c =
    signed_cut c.args.text.now c.in_ok-first.rest.now c.args.sign c.args.most
    (c.in_ok-first.ensures.some ∙ ap (λ (x : ℕ). x ∷ c.in_ok-first.rest.now) c.if-first-sign.false) c.ranges.most.fits
    c.in_ok-number.number c.in_ok-number.behind.now c.in_ok-number.ensures.number
