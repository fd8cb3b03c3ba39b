-- How far a plan's word was read: which of the plan's acts started, and which ends are to come.
use Rattle.std.proofs.Common.{◌≡◌, refl, sym, ap, subst, ◌∙◌, ℕ, suc, ◌+◌, ◌<◌, ◌≤◌, Bool, true, false, List, [], ◌∷◌, ◌++◌, length, ◌⊎◌, inl, inr, arith}
use Rattle.std.specs.Prelude.{◌==◌, ◌&&◌, ◌||◌}
use Rattle.std.specs.List.{AllByRecursion as Each, list_any}
use Rattle.std.proofs.lemmas.Bool.{eqb-true, eq-eqb, false≢true, and_parts, and_from, or_right, cases_lt}
use Rattle.tp_spec.specs.declared.plan.Item.TheVariants.{End, Start, TimedAt}
use Rattle.tp_spec.specs.declared.plan.Mark.{Mark}
use Rattle.tp_spec.specs.declared.plan.Timed.{Timed}
use Rattle.tp_spec.specs.declared.problem.Problem.{Problem}
use Rattle.tp_spec.specs.Lists.{IsIn}
use Rattle.tp_spec.specs.Items.{is_durative}
use Rattle.tp_spec.specs.Courses.{stands}
use Rattle.tp_spec.specs.Words.{groups, acts_of}
use Rattle.tp_laws.proofs.EarlyLists.{each-map, each-in, in-left, in-right}
use Rattle.tp_laws.proofs.PlanOfBeside.{Beside, Pairs}
use Rattle.tp_laws.proofs.PlanOfOrders.{Plays, Ranged, Turn, pairs-front, pairs-in}
use Rattle.tp_laws.proofs.PlanOfClocks.{Emits, ticks-more}
use Rattle.tp_laws.proofs.PlanOfPairs.{Passed, Ahead, Due, Pair, EndsElse, all-moved, none-ends, one-ends}

any-in : {A : Type 0} (test : A → Bool) (xs : List A) (x : A) → IsIn x xs → test x ≡ true → list_any test xs ≡ true
any-in test [] x i h = absurd i
any-in test (y ∷ xs) x (inl e) h = ap (λ b. b || list_any test xs) (ap test e ∙ h)
any-in test (y ∷ xs) x (inr i) h = or_right (test y) (list_any test xs) (any-in test xs x i h)

pub any-of : {A : Type 0} (test : A → Bool) (xs : List A) → list_any test xs ≡ true → (x : A) × IsIn x xs × (test x ≡ true)
any-of test [] h = absurd (false≢true h)
any-of {A} test (y ∷ xs) h = by_test (test y) refl h (any-of test xs)
  where
    by_test : (b : Bool) → test y ≡ b → (b || list_any test xs) ≡ true → (list_any test xs ≡ true → (x : A) × IsIn x xs × (test x ≡ true)) → (x : A) × IsIn x (y ∷ xs) × (test x ≡ true)
    by_test true e k ih = (y, inl refl, e)
    by_test false e k ih = let r = ih k in (r.0, inr r.1, r.2)

each-of-in : {A : Type 0} (P : A → Type 0) (xs : List A) → ((x : A) → IsIn x xs → P x) → Each P xs
each-of-in P [] f = tt
each-of-in P (x ∷ xs) f = (f x (inl refl), each-of-in P xs (λ y i. f y (inr i)))

pub due-at : (t : ℕ) (y : Timed) → t ≤ y.start + y.length → Due t 0 y
due-at t y le = by_order (cases_lt t (y.start + y.length))
  where
    by_order : (t < y.start + y.length) ⊎ (y.start + y.length ≤ t) → Due t 0 y
    by_order (inl b) = inl b
    by_order (inr b) = inr (omega (arith, le, b), omega arith)

module _ (p : Problem) (acts : List Timed) (tick : ℕ → ℕ) where
  -- The acts that started are the first of the plan's. Ends are read up to place j of tick t, starts
  -- up to place k of tick s.
  pub record Stage (t j s k : ℕ) (u : List Mark) : Type 0 where
    pub done : List Timed
    pub rest : List Timed
    pub ends : ℕ → ℕ
    pub whole : acts ≡ done ++ rest
    pub beside : Beside (Pair p tick ends t j) (acts_of p u) done
    pub passed : Each (Passed s k) done
    pub ahead : Each (Ahead s k) rest
    pub order : s ≤ t
    pub ticks : (g : ℕ) → g < groups u → tick g ≤ s

  -- a timed item more
  pub stage-timed : (t i g : ℕ) (u v : List Mark) → Emits p u v (TimedAt i) g → tick g ≡ t → Stage t 0 t 0 u → Stage t 0 t 0 v
  stage-timed t i g u v e at s = record {
    done = s.done;
    rest = s.rest;
    ends = s.ends;
    whole = s.whole;
    beside = subst (λ xs. Beside (Pair p tick s.ends t 0) xs s.done) (sym e.acts) s.beside;
    passed = s.passed;
    ahead = s.ahead;
    order = s.order;
    ticks = ticks-more p tick u v (TimedAt i) g t e (omega (arith, at)) s.ticks;
  }

  in-done : (done rest : List Timed) → acts ≡ done ++ rest → (y : Timed) → IsIn y done → IsIn y acts
  in-done done rest whole y i = subst (IsIn y) (sym whole) (in-left y done rest i)

  -- no end at a place
  pub end-skip : (t a : ℕ) (u : List Mark) → stands p acts t (End a) ≡ false → Stage t a t 0 u → Stage t (suc a) t 0 u
  end-skip t a u off s = record {
    done = s.done;
    rest = s.rest;
    ends = s.ends;
    whole = s.whole;
    beside = none-ends p tick s.ends t a (acts_of p u) s.done (each-of-in (EndsElse p tick t a) s.done else) s.beside;
    passed = s.passed;
    ahead = s.ahead;
    order = s.order;
    ticks = s.ticks;
  }
    where
      else : (y : Timed) → IsIn y s.done → EndsElse p tick t a y
      else y i d own here =
          let any : list_any (λ x. x.action == a && x.start + x.length == t) acts ≡ true = any-in (λ x. x.action == a && x.start + x.length == t) acts y (in-done s.done s.rest s.whole y i) (and_from _ _ (eq-eqb y.action a own) (eq-eqb (y.start + y.length) t here)) in
          let durative : is_durative p a ≡ true = ap (is_durative p) (sym own) ∙ d in
          false≢true (sym off ∙ and_from (is_durative p a) (list_any (λ x. x.action == a && x.start + x.length == t) acts) durative any)

  module _ (plays : Plays p acts) where
    starts_before : (t : ℕ) (y : Timed) → Passed t 0 y → y.start < t
    starts_before t y (inl b) = b
    starts_before t y (inr b) = absurd (omega (arith, b.1))

    -- what ends at a tick as an act of an action is the one that runs
    ends-here : (t a : ℕ) (done rest : List Timed) → acts ≡ done ++ rest → stands p acts t (End a) ≡ true → Each (λ y. y.start < t) done → (y : Timed) → IsIn y done → y.action ≡ a → t ≤ y.start + y.length → y.start + y.length ≡ t
    ends-here t a done rest whole on past y i own late =
        let z = any-of (λ x. x.action == a && x.start + x.length == t) acts (and_parts (is_durative p a) _ on).1 in
        by_place z.0 (eqb-true z.0.action a (and_parts _ _ z.2).0) (eqb-true (z.0.start + z.0.length) t (and_parts _ _ z.2).1) (and_parts (is_durative p a) _ on).0 z.1
        (pairs-in Turn acts y z.0 plays.turns (in-done done rest whole y i) z.1)
      where
        by_place : (z : Timed) → z.action ≡ a → z.start + z.length ≡ t → is_durative p a ≡ true → IsIn z acts → (y ≡ z) ⊎ (Turn y z ⊎ Turn z y) → y.start + y.length ≡ t
        by_place z named here durative j (inl e) = ap (λ x. x.start + x.length) e ∙ here
        by_place z named here durative j (inr (inl b)) =
            absurd (omega (arith, here, late, b (own ∙ sym named), (each-in (Ranged p) acts z plays.ranged j).long (ap (is_durative p) named ∙ durative)))
        by_place z named here durative j (inr (inr b)) = absurd (omega (arith, here, b (named ∙ sym own), each-in (λ x. x.start < t) done y past i))

    -- an end at a place
    pub end-emit : (t a g : ℕ) (u v : List Mark) → stands p acts t (End a) ≡ true → Emits p u v (End a) g → tick g ≡ t → Stage t a t 0 u → Stage t (suc a) t 0 v
    end-emit t a g u v on e at s =
        let past : Each (λ y. y.start < t) s.done = each-map (Passed t 0) (λ y. y.start < t) s.done (starts_before t) s.passed in
        record {
          done = s.done;
          rest = s.rest;
          ends = s.ends;
          whole = s.whole;
          beside = subst (λ xs. Beside (Pair p tick s.ends t (suc a)) xs s.done) (sym e.acts)
              (one-ends p tick s.ends t a g (acts_of p u) s.done at (pairs-front Turn s.done s.rest (subst (Pairs Turn) s.whole plays.turns)) past (ends-here t a s.done s.rest s.whole on past) s.beside);
          passed = s.passed;
          ahead = s.ahead;
          order = s.order;
          ticks = ticks-more p tick u v (End a) g t e (omega (arith, at)) s.ticks;
        }

    -- past all ends of a tick
    pub ends-past : (t : ℕ) (u : List Mark) → Stage t (length p.actions) t 0 u → Stage (suc t) 0 t 0 u
    ends-past t u s = record {
      done = s.done;
      rest = s.rest;
      ends = s.ends;
      whole = s.whole;
      beside = all-moved p tick s.ends t (length p.actions) (suc t) 0 (acts_of p u) s.done (each-of-in _ s.done later) s.beside;
      passed = s.passed;
      ahead = s.ahead;
      order = omega arith;
      ticks = s.ticks;
    }
      where
        later : (y : Timed) → IsIn y s.done → is_durative p y.action ≡ true → Due t (length p.actions) y → Due (suc t) 0 y
        later y i d (inl b) = due-at (suc t) y (omega (arith, b))
        later y i d (inr b) = absurd (omega (arith, b.1, (each-in (Ranged p) acts y plays.ranged (in-done s.done s.rest s.whole y i)).known))

    -- no start at a place
    pub start-skip : (t a : ℕ) (u : List Mark) → stands p acts t (Start a) ≡ false → Stage (suc t) 0 t a u → Stage (suc t) 0 t (suc a) u
    start-skip t a u off s = record {
      done = s.done;
      rest = s.rest;
      ends = s.ends;
      whole = s.whole;
      beside = s.beside;
      passed = each-map (Passed t a) (Passed t (suc a)) s.done wider s.passed;
      ahead = each-of-in (Ahead t (suc a)) s.rest (λ y i. narrower y i (each-in (Ahead t a) s.rest y s.ahead i));
      order = s.order;
      ticks = s.ticks;
    }
      where
        wider : (y : Timed) → Passed t a y → Passed t (suc a) y
        wider y (inl b) = inl b
        wider y (inr b) = inr (b.0, omega (arith, b.1))

        not_here : (y : Timed) → IsIn y s.rest → y.action ≡ a → y.start ≡ t → ⊥
        not_here y i own here =
            let there : IsIn y acts = subst (IsIn y) (sym s.whole) (in-right y s.done s.rest i) in
            false≢true (sym off ∙ any-in (λ x. x.action == a && x.start == t) acts y there (and_from _ _ (eq-eqb y.action a own) (eq-eqb y.start t here)))

        narrower : (y : Timed) → IsIn y s.rest → Ahead t a y → Ahead t (suc a) y
        narrower y i (inl b) = inl b
        narrower y i (inr b) =
            let le = b.1 in
            let ne : y.action ≡ a → ⊥ = λ own. not_here y i own (sym b.0) in
            inr (b.0, omega (arith, le, ne))

    -- past all starts of a tick
    pub starts-past : (t : ℕ) (u : List Mark) → Stage (suc t) 0 t (length p.actions) u → Stage (suc t) 0 (suc t) 0 u
    starts-past t u s = record {
      done = s.done;
      rest = s.rest;
      ends = s.ends;
      whole = s.whole;
      beside = s.beside;
      passed = each-map (Passed t (length p.actions)) (Passed (suc t) 0) s.done before s.passed;
      ahead = each-of-in (Ahead (suc t) 0) s.rest (λ y i. behind y i (each-in (Ahead t (length p.actions)) s.rest y s.ahead i));
      order = omega arith;
      ticks = λ g b. omega (arith, s.ticks g b);
    }
      where
        before : (y : Timed) → Passed t (length p.actions) y → Passed (suc t) 0 y
        before y (inl b) = inl (omega (arith, b))
        before y (inr b) = inl (omega (arith, b.0))

        next_at : (y : Timed) → t < y.start → (suc t < y.start) ⊎ (y.start ≤ suc t) → Ahead (suc t) 0 y
        next_at y lt (inl b) = inl b
        next_at y lt (inr b) = inr (omega (arith, lt, b), omega arith)

        behind : (y : Timed) → IsIn y s.rest → Ahead t (length p.actions) y → Ahead (suc t) 0 y
        behind y i (inl b) = next_at y b (cases_lt (suc t) y.start)
        behind y i (inr b) =
            let there : IsIn y acts = subst (IsIn y) (sym s.whole) (in-right y s.done s.rest i) in
            absurd (omega (arith, b.1, (each-in (Ranged p) acts y plays.ranged there).known))
