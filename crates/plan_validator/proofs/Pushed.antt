-- What is added to the standings, item by item.
use Rattle.std.proofs.Common.{◌≡◌, refl, sym, ap, subst, ◌∙◌, ℕ, ◌+◌, ◌<◌, ◌≤◌, Bool, true, false, not, ◌&&◌, ◌||◌, ◌==◌, nat_lt, List, [], ◌∷◌, ◌++◌, length, get_or, take, arith, inl, inr, ◌⊎◌, Some}
use Rattle.std.specs.Prelude.{slice_get, Option}
use Rattle.std.specs.List.{list_any}
use Rattle.std.proofs.lemmas.Bool.{cases_order, lt-ltb, le-ltb, eq-eqb, ne_eqb, eqb-true, cases_Bool}
use Rattle.std.proofs.lemmas.List.{take_more}
use Rattle.std.proofs.lemmas.List.Folds.{list_any-append}
use Rattle.std.proofs.lemmas.Option.{slice_get-get_or}
use Rattle.tp_spec.specs.declared.plan.Item.{Item}
use Rattle.tp_spec.specs.declared.plan.Item.TheVariants.{TimedAt, End, Start}
use Rattle.tp_spec.specs.declared.plan.Timed.{Timed}
use Rattle.tp_spec.specs.declared.problem.Problem.{Problem}
use Rattle.tp_spec.specs.declared.problem.TimedItem.{TimedItem}
use Rattle.tp_spec.specs.Lists.{some_and}
use Rattle.tp_spec.specs.Items.{is_durative}
use Rattle.plan_validator.specs.declared.standings.Place.{Place}
use Rattle.plan_validator.specs.declared.standings.Place.TheVariants.{Fixed, Ending, Starting}
use Rattle.plan_validator.specs.declared.standings.Standing.{Standing}
use Rattle.plan_validator.specs.Standings.{has_standing, stands_timed, stands_by}

abbrev pub at : ℕ → Place → List Standing
at t place = record { tick = t; place = place } ∷ []

none_there : (b : Bool) → false ≡ (false || ((b && false) || false))
none_there true = refl
none_there false = refl

here_alone : (b : Bool) → b ≡ (false || ((b && true) || false))
here_alone true = refl
here_alone false = refl

as_before : (a b : Bool) → a ≡ (a || ((b && false) || false))
as_before true b = refl
as_before false true = refl
as_before false false = refl

-- one more timed item
pub timed_more : (p : Problem) (n : ℕ) (d : TimedItem) → n < length p.timed → (t : ℕ) (i : Item)
    → stands_timed p (n + 1) t i ≡ (stands_timed p n t i || has_standing (at ((get_or p.timed n d).tick) (Fixed n)) t i)
timed_more p n d inside t (TimedAt k) = either (cases_order k n) where
  there : ℕ → Bool
  there j = some_and (slice_get p.timed j) (λ x. x.tick == t)

  either : (k ≡ n) ⊎ ((k < n) ⊎ (n < k)) → (nat_lt k (n + 1) && there k) ≡ ((nat_lt k n && there k) || (((get_or p.timed n d).tick == t && n == k) || false))
  either (inl e) =
      (λ m. lt-ltb k (n + 1) (omega (arith, e)) m && some_and (slice_get p.timed (e m)) (λ x. x.tick == t))
      ∙ ap (λ o. some_and o (λ x. x.tick == t)) (slice_get-get_or p.timed n d inside)
      ∙ here_alone ((get_or p.timed n d).tick == t)
      ∙ (λ m. (sym (le-ltb k n (omega (arith, e))) m && there k) || (((get_or p.timed n d).tick == t && sym (eq-eqb n k (sym e)) m) || false))
  either (inr (inl less)) =
      (λ m. lt-ltb k (n + 1) (omega (arith, less)) m && there k)
      ∙ as_before (there k) ((get_or p.timed n d).tick == t)
      ∙ (λ m. (sym (lt-ltb k n less) m && there k) || (((get_or p.timed n d).tick == t && sym (ne_eqb n k (λ e. omega (arith, e, less))) m) || false))
  either (inr (inr more)) =
      (λ m. le-ltb k (n + 1) (omega (arith, more)) m && there k)
      ∙ none_there ((get_or p.timed n d).tick == t)
      ∙ (λ m. (sym (le-ltb k n (omega (arith, more))) m && there k) || (((get_or p.timed n d).tick == t && sym (ne_eqb n k (λ e. omega (arith, e, more))) m) || false))
timed_more p n d inside t (End a) = none_there ((get_or p.timed n d).tick == t)
timed_more p n d inside t (Start a) = none_there ((get_or p.timed n d).tick == t)

or_assoc : (a b c : Bool) → ((a || b) || c) ≡ (a || (b || c))
or_assoc true b c = refl
or_assoc false b c = refl

-- a step of a loop that adds what one more member gives
pub or_step : (all base before one now : Bool) → all ≡ (base || before) → now ≡ (all || one) → now ≡ (base || (before || one))
or_step all base before one now e f = f ∙ ap (λ b. b || one) e ∙ or_assoc base before one
