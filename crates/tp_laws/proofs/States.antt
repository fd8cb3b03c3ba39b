-- Where nothing happens, nothing changes.
use Rattle.std.proofs.Common.{◌≡◌, refl, ap, ◌∙◌, ℕ, List, [], ◌∷◌, Some, None}
use Rattle.std.specs.Prelude.{Bool, true, false, not, ◌&&◌, ◌||◌, Option}
use Rattle.std.specs.Option.{option_and_then}
use Rattle.std.proofs.lemmas.Bool.{false≢true}
use Rattle.tp_spec.specs.declared.plan.Item.{Item}
use Rattle.tp_spec.specs.declared.plan.Timed.{Timed}
use Rattle.tp_spec.specs.declared.problem.Problem.{Problem}
use Rattle.tp_spec.specs.States.{State}
use Rattle.tp_spec.specs.Items.{next, after}
use Rattle.tp_spec.specs.Lists.{is_empty}
use Rattle.tp_spec.specs.Courses.{happening, state_before, state_after}

-- two states that agree everywhere are one
pub same_state : (s t : State) → ((f : ℕ) → s.fact f ≡ t.fact f) → ((x : ℕ) → s.fluent x ≡ t.fluent x) → s ≡ t
same_state s t facts fluents = λ i. record { fact = λ f. facts f i; fluent = λ x. fluents x i }

pub next-none : (s : State) → next s [] ≡ s
next-none s = same_state _ _ (λ f. keeps (s.fact f)) (λ x. refl) where
  keeps : (b : Bool) → ((b && not false) || false) ≡ b
  keeps true = refl
  keeps false = refl

pub after-none : (p : Problem) (s : State) → after p s [] ≡ Some s
after-none p s = ap Some (next-none s)

pub state_after-quiet : (p : Problem) (acts : List Timed) (t : ℕ) → is_empty (happening p acts t) ≡ true → state_after p acts t ≡ state_before p acts t
state_after-quiet p acts t quiet = by_state (state_before p acts t) where
  none : (is : List Item) → is_empty is ≡ true → is ≡ []
  none [] h = refl
  none (i ∷ is) h = absurd (false≢true h)

  by_state : (o : Option State) → option_and_then (λ s. after p s (happening p acts t)) o ≡ o
  by_state None = refl
  by_state (Some s) = ap (after p s) (none (happening p acts t) quiet) ∙ after-none p s
