-- A start of an instant action that joins the last group, over plain lists of acts and timed items.
use Rattle.std.proofs.Common.{◌≡◌, refl, ap, subst, ◌∙◌, ℕ, suc, ◌+◌, ◌-◌, ◌<◌, ◌≤◌, inl, Bool, true, false, List, [], ◌∷◌, ◌++◌, length, Option, Some, None, arith, nat_lt, cond, length-append}
use Rattle.std.proofs.lemmas.Bool.{ltb-true, ltb-false}
use Rattle.tp_spec.specs.declared.plan.Limits.{Limits}
use Rattle.tp_spec.specs.declared.problem.Problem.{Problem}
use Rattle.tp_spec.specs.Words.{Act}
use Rattle.tp_laws.specs.Instants.{first_group, last_group, first_or, tick_of, joined_by}
use Rattle.tp_laws.proofs.EarlyLists.{in-left, in-right}
use Rattle.tp_laws.proofs.InstantActs.{Placed, Places}
use Rattle.tp_laws.proofs.InstantTicks.{Facts, from-first, first-from, last-tick, no-acts}

-- a number tells at which clocks there are ticks, as far as the clock goes
pub record TellsPlaces (p : Problem) (l : Limits) (n : ℕ) (xs : List Act) (ts : List ℕ) (d : ℕ) : Type 0 where
  pub within : d ≤ l.horizon + 1
  pub before : (now : ℕ) (t : ℕ → ℕ) → now ≤ l.horizon + 1 → Placed p l now n xs ts t → now ≤ d
  pub after : (now : ℕ) → now ≤ d → Places p l now n xs ts

abbrev pub HasPlaces : Problem → Limits → ℕ → List Act → List ℕ → Option ℕ → Type 0
HasPlaces p l n xs ts None = (now : ℕ) (t : ℕ → ℕ) → ¬ Placed p l now n xs ts t
HasPlaces p l n xs ts (Some d) = TellsPlaces p l n xs ts d

-- fewer groups and acts have these ticks too
pub fewer : (p : Problem) (l : Limits) (now n m : ℕ) (xs ys : List Act) (ts : List ℕ) (t : ℕ → ℕ) → n ≤ m → Placed p l now m (xs ++ ys) ts t → Placed p l now n xs ts t
fewer p l now n m xs ys ts t le at = record {
  rises = λ g b. at.rises g (omega (arith, le, b));
  within = λ g b. at.within g (omega (arith, le, b));
  timed = at.timed;
  before_next = λ g b. at.before_next g (omega (arith, le, b));
  from = λ x i. at.from x (in-left x xs ys i);
  few = omega (arith, at.few, length-append xs ys);
}

pub first-push : (xs : List Act) (x : Act) → first_group (xs ++ x ∷ []) ≡ first_or (first_group xs) x.opens
first-push [] x = refl
first-push (y ∷ xs) x = refl

module _ (p : Problem) (l : Limits) (g : ℕ) (xs : List Act) (ts : List ℕ) (x : Act) (known : Facts p (suc g) xs ts) (more : Facts p (suc g) (xs ++ x ∷ []) ts) (opened : x.opens ≡ g) where
  one-more : length (xs ++ x ∷ []) ≡ length xs + 1
  one-more = length-append xs (x ∷ [])

  from-last : (now : ℕ) (t : ℕ → ℕ) → Placed p l now (suc g) (xs ++ x ∷ []) ts t → now ≤ t g
  from-last now t at = subst (λ (h : ℕ). now ≤ t h) opened (at.from x (in-right x xs (x ∷ []) (inl refl)))

  -- the new act at a later clock
  joined : (past now f : ℕ) (t : ℕ → ℕ) → Placed p l past (suc g) xs ts t → length xs < l.actions → first_group (xs ++ x ∷ []) ≡ Some f → now ≤ t f → Placed p l now (suc g) (xs ++ x ∷ []) ts t
  joined past now f t at few e le = record {
    rises = at.rises;
    within = at.within;
    timed = at.timed;
    before_next = at.before_next;
    from = from-first p (suc g) (xs ++ x ∷ []) ts more now f t at.rises e le;
    few = omega (arith, few, one-more);
  }

  module _ (d : ℕ) (timed : xs ≡ [] → last_group ts ≡ Some g) (tells : TellsPlaces p l (suc g) xs ts d) where
    some-room : length xs < l.actions → (o : Option ℕ) → first_group xs ≡ o → TellsPlaces p l (suc g) (xs ++ x ∷ []) ts (joined_by d (tick_of p (length ts - 1)) o)
    some-room few None e =
        let last : last_group ts ≡ Some g = timed (no-acts xs e) in
        let start = tells.after 0 (omega arith) in
        let tick : start.0 g ≡ tick_of p (length ts - 1) = last-tick p (suc g) xs ts known l 0 start.0 start.1 g last in
        record {
          within = omega (arith, tick, start.1.within g (omega arith));
          before = λ now t le at. omega (arith, from-last now t at, last-tick p (suc g) (xs ++ x ∷ []) ts more l now t at g last);
          after = λ now le. (start.0, joined 0 now x.opens start.0 start.1 few (first-push xs x ∙ ap (λ o. first_or o x.opens) e) (omega (arith, le, tick, ap start.0 opened)));
        }
    some-room few (Some f) e = record {
      within = tells.within;
      before = λ now t le at. tells.before now t le (fewer p l now (suc g) (suc g) xs (x ∷ []) ts t (omega arith) at);
      after = λ now le.
          let places = tells.after now le in
          (places.0, joined now now f places.0 places.1 few (first-push xs x ∙ ap (λ o. first_or o x.opens) e) (first-from p (suc g) xs ts known l now places.0 places.1 f e));
    }

    pub start-joins : HasPlaces p l (suc g) (xs ++ x ∷ []) ts (cond (nat_lt (length xs) l.actions) (Some (joined_by d (tick_of p (length ts - 1)) (first_group xs))) None)
    start-joins = by_few (nat_lt (length xs) l.actions) refl
      where
        by_few : (b : Bool) → nat_lt (length xs) l.actions ≡ b → HasPlaces p l (suc g) (xs ++ x ∷ []) ts (cond b (Some (joined_by d (tick_of p (length ts - 1)) (first_group xs))) None)
        by_few true e = some-room (ltb-true (length xs) l.actions e) (first_group xs) refl
        by_few false e = λ now t at. omega (arith, at.few, one-more, ltb-false (length xs) l.actions e)
