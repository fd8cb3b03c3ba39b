-- An act of a word beside the act of a plan: where it starts, and where it ends or whether its end
-- is still to come.
use Rattle.std.proofs.Common.{◌≡◌, refl, sym, subst, ◌∙◌, ℕ, suc, ◌+◌, ◌<◌, ◌≤◌, Bool, true, false, cond, eqb, List, [], ◌∷◌, Option, Some, None, ◌⊎◌, inl, inr, arith}
use Rattle.std.specs.Prelude.{◌==◌, if◌then◌else◌}
use Rattle.std.specs.List.{AllByRecursion as Each}
use Rattle.std.proofs.lemmas.Bool.{eqb-true, eqb-false}
use Rattle.tp_spec.specs.declared.plan.Timed.{Timed}
use Rattle.tp_spec.specs.declared.problem.Problem.{Problem}
use Rattle.tp_spec.specs.Lists.{IsIn}
use Rattle.tp_spec.specs.Items.{is_durative}
use Rattle.tp_spec.specs.Words.{Act, ended}
use Rattle.tp_laws.proofs.EarlyLists.{each-map}
use Rattle.tp_laws.proofs.PlanOfBeside.{Beside, beside-map, Pairs}
use Rattle.tp_laws.proofs.PlanOfOrders.{Turn}

-- its start stands before place k of the starts of tick t
abbrev pub Passed : ℕ → ℕ → Timed → Type 0
Passed t k y = (y.start < t) ⊎ ((y.start ≡ t) × (y.action < k))

-- its start stands there or behind
abbrev pub Ahead : ℕ → ℕ → Timed → Type 0
Ahead t k y = (t < y.start) ⊎ ((t ≡ y.start) × (k ≤ y.action))

-- its end stands at place k of the ends of tick t, or behind
abbrev pub Due : ℕ → ℕ → Timed → Type 0
Due t k y = (t < y.start + y.length) ⊎ ((t ≡ y.start + y.length) × (k ≤ y.action))

-- one test more before the end of an act is known
ended-by : (P : List Act → Type 0) (a g : ℕ) (x : Act) (xs : List Act)
    → ((h : ℕ) → x.closes ≡ Some h → P (x ∷ ended a g xs))
    → (x.closes ≡ None → (x.action ≡ a → ⊥) → P (x ∷ ended a g xs))
    → (x.closes ≡ None → x.action ≡ a → P (record { action = x.action; opens = x.opens; closes = Some g } ∷ xs))
    → P (ended a g (x ∷ xs))
ended-by P a g x xs shut other own = by_end x.closes (x.action == a) refl refl
  where
    by_end : (o : Option ℕ) (b : Bool) → x.closes ≡ o → (x.action == a) ≡ b → P (elim o as (λ _. List Act) [ Some k ↦ x ∷ ended a g xs | None ↦ if b then record { action = x.action; opens = x.opens; closes = Some g } ∷ xs else x ∷ ended a g xs ])
    by_end (Some k) b e f = shut k e
    by_end None true e f = own e (eqb-true x.action a f)
    by_end None false e f = other e (eqb-false x.action a f)

module _ (p : Problem) (tick : ℕ → ℕ) where
  -- an act whose end is still to come, at place k of the ends of tick t or behind
  pub record Running (ends : ℕ → ℕ) (t k : ℕ) (y : Timed) : Type 0 where
    pub durative : is_durative p y.action ≡ true
    pub till : ends y.action ≡ y.start + y.length
    pub due : Due t k y

  abbrev pub Closing : (ℕ → ℕ) → ℕ → ℕ → Timed → Option ℕ → Type 0
  Closing ends t k y (Some g) = tick g ≡ y.start + y.length
  Closing ends t k y None = Running ends t k y

  pub record Pair (ends : ℕ → ℕ) (t k : ℕ) (x : Act) (y : Timed) : Type 0 where
    pub named : x.action ≡ y.action
    pub opens : tick x.opens ≡ y.start
    pub closes : Closing ends t k y x.closes

  -- the place of the ends moves on
  pub moved : (ends : ℕ → ℕ) (t k u j : ℕ) (x : Act) (y : Timed) → (is_durative p y.action ≡ true → Due t k y → Due u j y) → Pair ends t k x y → Pair ends u j x y
  moved ends t k u j x y f b = record { named = b.named; opens = b.opens; closes = by_closes x.closes b.closes }
    where
      by_closes : (o : Option ℕ) → Closing ends t k y o → Closing ends u j y o
      by_closes (Some g) c = c
      by_closes None c = record { durative = c.durative; till = c.till; due = f c.durative c.due }

  pub all-moved : (ends : ℕ → ℕ) (t k u j : ℕ) (xs : List Act) (ys : List Timed) → Each (λ y. is_durative p y.action ≡ true → Due t k y → Due u j y) ys → Beside (Pair ends t k) xs ys → Beside (Pair ends u j) xs ys
  all-moved ends t k u j xs ys h b = beside-map (Pair ends t k) (Pair ends u j) (λ y. is_durative p y.action ≡ true → Due t k y → Due u j y) xs ys (λ x y f r. moved ends t k u j x y f r) h b

  due-next : (t a : ℕ) (y : Timed) → (y.action ≡ a → ⊥) → Due t a y → Due t (suc a) y
  due-next t a y ne (inl b) = inl b
  due-next t a y ne (inr b) = let le = b.1 in inr (b.0, omega (arith, le, ne))

  due-from : (t a : ℕ) (y : Timed) → Due t a y → t ≤ y.start + y.length
  due-from t a y (inl b) = omega (arith, b)
  due-from t a y (inr b) = omega (arith, b.0)

  -- an act does not end at a tick as one of an action
  abbrev pub EndsElse : ℕ → ℕ → Timed → Type 0
  EndsElse t a y = is_durative p y.action ≡ true → y.action ≡ a → y.start + y.length ≡ t → ⊥

  -- no act of an action is due at its place
  pub none-ends : (ends : ℕ → ℕ) (t a : ℕ) (xs : List Act) (ys : List Timed) → Each (EndsElse t a) ys → Beside (Pair ends t a) xs ys → Beside (Pair ends t (suc a)) xs ys
  none-ends ends t a xs ys h b = all-moved ends t a t (suc a) xs ys (each-map (EndsElse t a) (λ y. is_durative p y.action ≡ true → Due t a y → Due t (suc a) y) ys one h) b
    where
      one : (y : Timed) → EndsElse t a y → is_durative p y.action ≡ true → Due t a y → Due t (suc a) y
      one y f d (inl b) = inl b
      one y f d (inr b) = due-next t a y (λ e. f d e (sym b.0)) (inr b)

  -- the one act of an action that runs ends here
  pub one-ends : (ends : ℕ → ℕ) (t a g : ℕ) (xs : List Act) (ys : List Timed) → tick g ≡ t → Pairs Turn ys → Each (λ y. y.start < t) ys
      → ((y : Timed) → IsIn y ys → y.action ≡ a → t ≤ y.start + y.length → y.start + y.length ≡ t)
      → Beside (Pair ends t a) xs ys → Beside (Pair ends t (suc a)) (ended a g xs) ys
  one-ends ends t a g [] [] at turns past due b = tt
  one-ends ends t a g [] (y ∷ ys) at turns past due b = absurd b
  one-ends ends t a g (x ∷ xs) [] at turns past due b = absurd b
  one-ends ends t a g (x ∷ xs) (y ∷ ys) at turns past due b =
      let ih = one-ends ends t a g xs ys at turns.1 past.1 (λ z i. due z (inr i)) b.1 in
      ended-by (λ zs. Beside (Pair ends t (suc a)) zs (y ∷ ys)) a g x xs
      (λ h e. (shut h e, ih))
      (λ e ne. (moved ends t a t (suc a) x y (λ d. due-next t a y (λ s. ne (b.0.named ∙ s))) b.0, ih))
      (λ e own. own_ends e (sym b.0.named ∙ own))
    where
      shut : (h : ℕ) → x.closes ≡ Some h → Pair ends t (suc a) x y
      shut h e = record { named = b.0.named; opens = b.0.opens; closes = subst (Closing ends t (suc a) y) (sym e) (subst (Closing ends t a y) e b.0.closes) }

      own_ends : x.closes ≡ None → y.action ≡ a → Beside (Pair ends t (suc a)) (record { action = x.action; opens = x.opens; closes = Some g } ∷ xs) (y ∷ ys)
      own_ends e own =
          let runs : Running ends t a y = subst (Closing ends t a y) e b.0.closes in
          let here : y.start + y.length ≡ t = due y (inl refl) own (due-from t a y runs.due) in (
            record { named = b.0.named; opens = b.0.opens; closes = at ∙ sym here },
            all-moved ends t a t (suc a) xs ys (others here own ys turns.0 past.1) b.1,
          )
        where
          others : y.start + y.length ≡ t → y.action ≡ a → (zs : List Timed) → Each (Turn y) zs → Each (λ z. z.start < t) zs → Each (λ z. is_durative p z.action ≡ true → Due t a z → Due t (suc a) z) zs
          others here own [] h k = tt
          others here own (z ∷ zs) h k = (λ d. due-next t a z (λ s. omega (arith, here, k.0, h.0 (own ∙ sym s))), others here own zs h.1 k.1)

  -- an act that starts: the ends of other actions stay
  abbrev pub with_end : ℕ → ℕ → (ℕ → ℕ) → ℕ → ℕ
  with_end a e ends b = cond (eqb a b) e (ends b)

  pub ends-kept : (ends : ℕ → ℕ) (a e t k : ℕ) (xs : List Act) (ys : List Timed) → Each (λ y. y.action ≡ a → Due t k y → ⊥) ys → Beside (Pair ends t k) xs ys → Beside (Pair (with_end a e ends) t k) xs ys
  ends-kept ends a e t k xs ys h b = beside-map (Pair ends t k) (Pair (with_end a e ends) t k) (λ y. y.action ≡ a → Due t k y → ⊥) xs ys one h b
    where
      one : (x : Act) (y : Timed) → (y.action ≡ a → Due t k y → ⊥) → Pair ends t k x y → Pair (with_end a e ends) t k x y
      one x y f r = record { named = r.named; opens = r.opens; closes = by_closes x.closes r.closes }
        where
          by_closes : (o : Option ℕ) → Closing ends t k y o → Closing (with_end a e ends) t k y o
          by_closes (Some g) c = c
          by_closes None c = record { durative = c.durative; till = by_test (eqb a y.action) refl; due = c.due }
            where
              by_test : (s : Bool) → eqb a y.action ≡ s → cond s e (ends y.action) ≡ y.start + y.length
              by_test true q = absurd (f (sym (eqb-true a y.action q)) c.due)
              by_test false q = c.till
