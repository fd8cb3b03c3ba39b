use Rattle.std.proofs.Common.{◌≡◌, ℕ, List, Option, Some, Ok, Result, subst, ap, sym, ◌∙◌}
use Rattle.std.specs.Option.{option_map}
use Rattle.tp_spec.specs.declared.plan.Timed.{Timed}
use Rattle.tp_spec.specs.declared.problem.Problem.{Problem}
use Rattle.plan_text.specs.declared.amount.Amount.{Amount}
use Rattle.plan_text.specs.declared.fault.Fault.{Fault}
use Rattle.plan_text.specs.Pieces.{spaced}
use Rattle.plan_text.specs.Acts.{Parts, Gives, timed, act_from, action_of, amount_of, length_of}
use Rattle.plan_text.proofs.act_line.act_from.Goals as goal

joined : (p : Problem) (x : Parts) (scale : ℕ) (first name : List ℕ) (start length : Amount) (a : Option ℕ)
    → scale ≡ p.scale → first ≡ spaced x.start → Ok start ≡ amount_of scale first → length_of scale x.length ≡ Ok length
    → name ≡ spaced x.name → a ≡ action_of p name
    → timed a (Ok start) (Ok length) ≡ act_from p (Some x)
joined p x scale first name start length a s f es el n ea =
    let named : a ≡ action_of p (spaced x.name) = ea ∙ ap (action_of p) n in
    let started : Ok start ≡ amount_of p.scale (spaced x.start) = es ∙ (ap (λ (m : ℕ). amount_of m first) s ∙ ap (amount_of p.scale) f) in
    let lasted : Ok length ≡ length_of p.scale x.length = sym el ∙ ap (λ (m : ℕ). length_of m x.length) s in
    λ i. timed (named i) (started i) (lasted i)

pub returns-clause-answer : goal.returns-clause-answer
returns-clause-answer c =
    let x : Parts = record { start = c.args.parts.start.now; name = c.args.parts.name.now; length = option_map (λ t. t.now) c.args.parts.length } in
    subst (λ (w : Result Timed Fault). Gives c.named.result w)
    (joined c.args.problem.now x c.scale_of-scale.result c.in_ok-spaced.field-0.items c.deref.result.now c.in_ok-start.start c.in_ok-length.length c.action_of.result
    c.scale_of-scale.ensures.scale c.in_ok-spaced.ensures c.in_ok-start.ensures c.in_ok-length.ensures
    (c.deref.ensures.value ∙ c.in_ok-name.ensures) c.action_of.ensures)
    c.named.ensures.answer
