-- The result of a history is what its last event prints.
use Rattle.std.proofs.Common.{◌≡◌, ℕ, suc, ◌-◌, ◌≤◌, List, [], ◌∷◌, length, get_or, ap, sym, ◌∙◌, arith}
use Rattle.tp_spec.specs.declared.event.Event.{Event}
use Rattle.tp_spec.specs.declared.problem.Problem.{Problem}
use Rattle.tp_spec.specs.Texts.{outcome_text, result_text}

pub last_prints : (p : Problem) (history : List Event) (last : Event) → 1 ≤ length history
    → last ≡ get_or history (length history - 1) last
    → outcome_text p last ≡ result_text p history
last_prints p [] last some at = absurd (omega arith)
last_prints p (e ∷ []) last some at = ap (outcome_text p) at
last_prints p (e ∷ f ∷ rest) last some at =
    let k : ℕ = length rest in
    let here : suc (suc k) - 1 ≡ suc k = omega arith in
    let there : suc k - 1 ≡ k = omega arith in
    last_prints p (f ∷ rest) last (omega arith)
    (at ∙ (ap (λ (i : ℕ). get_or (e ∷ f ∷ rest) i last) here ∙ ap (λ (i : ℕ). get_or (f ∷ rest) i last) (sym there)))
