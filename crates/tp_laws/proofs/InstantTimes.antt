-- A timed item that opens a group, or joins the last one, over plain lists of acts and timed items.
use Rattle.std.proofs.Common.{◌≡◌, refl, sym, ap, subst, ◌∙◌, ℕ, zero, suc, ◌+◌, ◌<◌, ◌≤◌, ◌⊎◌, inl, inr, Bool, true, false, List, [], ◌∷◌, ◌++◌, length, Option, Some, None, arith, nat_lt, nat_le, cond, length-append, IfSome, slice_get}
use Rattle.std.proofs.lemmas.Bool.{cases_lt, leb-true, leb-false, lt-ltb, le-ltb}
use Rattle.tp_spec.specs.declared.plan.Limits.{Limits}
use Rattle.tp_spec.specs.declared.problem.Problem.{Problem}
use Rattle.tp_spec.specs.declared.problem.TimedItem.{TimedItem}
use Rattle.tp_spec.specs.Lists.{IsIn}
use Rattle.tp_spec.specs.Words.{Act}
use Rattle.tp_laws.proofs.EarlyLists.{Rising}
use Rattle.tp_laws.proofs.PlanOfClocks.{push-get}
use Rattle.tp_laws.proofs.WordOfTimes.{sooner}
use Rattle.tp_laws.proofs.InstantActs.{Placed}
use Rattle.tp_laws.proofs.InstantTicks.{Facts, in-turn, far}
use Rattle.tp_laws.proofs.ClockCommits.{in_get}
use Rattle.tp_laws.proofs.ClockActs.{there}
use Rattle.tp_laws.proofs.InstantJoins.{TellsPlaces, HasPlaces}

-- what holds of each that is there
if-there : {A : Type 0} (P : A → Type 0) (o : Option A) → ((x : A) → o ≡ Some x → P x) → IfSome o P
if-there P None h = tt
if-there P (Some x) h = h x refl

of-there : {A : Type 0} (P : A → Type 0) (o : Option A) (x : A) → o ≡ Some x → IfSome o P → P x
of-there P o x e h = subst (λ q. IfSome q P) e h

pub get-push : (xs : List ℕ) (g : ℕ) → slice_get (xs ++ g ∷ []) (length xs) ≡ Some g
get-push [] g = refl
get-push (x ∷ xs) g = get-push xs g

get-front : (xs ys : List ℕ) (k g : ℕ) → slice_get xs k ≡ Some g → slice_get (xs ++ ys) k ≡ Some g
get-front [] ys k g e = absurd cc
get-front (x ∷ xs) ys zero g e = e
get-front (x ∷ xs) ys (suc k) g e = get-front xs ys k g e

module _ (p : Problem) (l : Limits) (n : ℕ) (xs : List Act) (ts : List ℕ) (i : TimedItem) (sorted : Rising sooner p.timed) (here : slice_get p.timed (length ts) ≡ Some i) where
  one-more : (g : ℕ) → length (ts ++ g ∷ []) ≡ suc (length ts)
  one-more g = length-append ts (g ∷ []) ∙ plus_one
    where
      plus_one : length ts + 1 ≡ suc (length ts)
      plus_one = omega arith

  -- the new item's group stands at its tick
  stands-there : (now m g : ℕ) (t : ℕ → ℕ) → Placed p l now m xs (ts ++ g ∷ []) t → t g ≡ i.tick
  stands-there now m g t at = of-there (λ j. t g ≡ j.tick) (slice_get p.timed (length ts)) i here
      (of-there (λ h. IfSome (slice_get p.timed (length ts)) (λ j. t h ≡ j.tick)) (slice_get (ts ++ g ∷ []) (length ts)) g (get-push ts g) (at.timed (length ts)))

  stands-before : (now m g : ℕ) (t : ℕ → ℕ) → Placed p l now m xs (ts ++ g ∷ []) t → (k h : ℕ) → slice_get ts k ≡ Some h → IfSome (slice_get p.timed k) (λ j. t h ≡ j.tick)
  stands-before now m g t at k h e = of-there (λ h. IfSome (slice_get p.timed k) (λ j. t h ≡ j.tick)) (slice_get (ts ++ g ∷ []) k) h (get-front ts (g ∷ []) k h e) (at.timed k)

  -- without the new group
  front : (now : ℕ) (t : ℕ → ℕ) → Placed p l now (suc n) xs (ts ++ n ∷ []) t → ((x : Act) → IsIn x xs → x.opens < n) → Placed p l now n xs ts t
  front now t at opens = record {
    rises = λ g b. at.rises g (omega (arith, b));
    within = λ g b. at.within g (omega (arith, b));
    timed = λ k. if-there (λ g. IfSome (slice_get p.timed k) (λ j. t g ≡ j.tick)) (slice_get ts k) (stands-before now (suc n) n t at k);
    before_next = λ g b. subst (λ o. IfSome o (λ j. t g < j.tick)) (sym here) (omega (arith, stands-there now (suc n) n t at, climbs g n b (omega arith)));
    from = at.from;
    few = at.few;
  }
    where
      climbs : (g k : ℕ) → g < k → k < suc n → t g < t k
      climbs g k lt b = omega (arith, far (suc n) t at.rises g k (omega (arith, lt)) b, lt)

  -- ticks of a word, and the new group at the item's tick
  abbrev with_tick : (ℕ → ℕ) → ℕ → ℕ
  with_tick t g = cond (nat_lt g n) (t g) i.tick

  old-tick : (t : ℕ → ℕ) (g : ℕ) → g < n → with_tick t g ≡ t g
  old-tick t g lt = ap (λ b. cond b (t g) i.tick) (lt-ltb g n lt)

  new-tick : (t : ℕ → ℕ) → with_tick t n ≡ i.tick
  new-tick t = ap (λ b. cond b (t n) i.tick) (le-ltb n n (omega arith))

  module _ (known : Facts p n xs ts) where
    timed-in : (k g : ℕ) → slice_get ts k ≡ Some g → g < n
    timed-in k g e = known.timed g (in_get ts k g e)

    appended : (now : ℕ) (t : ℕ → ℕ) → Placed p l now n xs ts t → i.tick ≤ l.horizon → Placed p l now (suc n) xs (ts ++ n ∷ []) (with_tick t)
    appended now t at le = record {
      rises = λ g b. up g (omega (arith, b)) (cases_lt (suc g) n);
      within = λ g b. inside g b (cases_lt g n);
      timed = λ k. if-there (λ g. IfSome (slice_get p.timed k) (λ j. with_tick t g ≡ j.tick)) (slice_get (ts ++ n ∷ []) k) (λ g e. stands k g (push-get ts n k g e));
      before_next = λ g b. subst (λ (k : ℕ). IfSome (slice_get p.timed k) (λ j. with_tick t g < j.tick)) (sym (one-more n))
          (if-there (λ j. with_tick t g < j.tick) (slice_get p.timed (suc (length ts))) (λ j e. sooner-than g b j (in-turn p.timed sorted (length ts) (suc (length ts)) i j (omega arith) here e) (cases_lt g n)));
      from = λ x m. omega (arith, at.from x m, old-tick t x.opens (known.opens x m));
      few = at.few;
    }
      where
        before : (g : ℕ) → g < n → t g < i.tick
        before g b = of-there (λ j. t g < j.tick) (slice_get p.timed (length ts)) i here (at.before_next g b)

        at-new : (g : ℕ) → g < suc n → n ≤ g → with_tick t g ≡ i.tick
        at-new g b ge = let same : n ≡ g = omega (arith, b, ge) in subst (λ (k : ℕ). with_tick t k ≡ i.tick) same (new-tick t)

        up : (g : ℕ) → g < n → (suc g < n) ⊎ (n ≤ suc g) → with_tick t g < with_tick t (suc g)
        up g b (inl lt) = omega (arith, old-tick t g b, old-tick t (suc g) lt, at.rises g lt)
        up g b (inr ge) = omega (arith, old-tick t g b, at-new (suc g) (omega (arith, b)) ge, before g b)

        inside : (g : ℕ) → g < suc n → (g < n) ⊎ (n ≤ g) → with_tick t g ≤ l.horizon
        inside g b (inl lt) = omega (arith, old-tick t g lt, at.within g lt)
        inside g b (inr ge) = omega (arith, at-new g b ge, le)

        stands : (k g : ℕ) → (slice_get ts k ≡ Some g) ⊎ ((k ≡ length ts) × (n ≡ g)) → IfSome (slice_get p.timed k) (λ j. with_tick t g ≡ j.tick)
        stands k g (inl e) = if-there (λ j. with_tick t g ≡ j.tick) (slice_get p.timed k) (λ j f. old-tick t g (timed-in k g e)
            ∙ of-there (λ j. t g ≡ j.tick) (slice_get p.timed k) j f (of-there (λ g. IfSome (slice_get p.timed k) (λ j. t g ≡ j.tick)) (slice_get ts k) g e (at.timed k)))
        stands k g (inr e) = if-there (λ j. with_tick t g ≡ j.tick) (slice_get p.timed k) (λ j f.
            let both : Some i ≡ Some j = sym here ∙ ap (slice_get p.timed) (sym e.0) ∙ f in
            let alike : i ≡ j = cc in
            subst (λ (h : ℕ). with_tick t h ≡ j.tick) e.1 (new-tick t ∙ ap (λ (q : TimedItem). q.tick) alike))

        sooner-than : (g : ℕ) → g < suc n → (j : TimedItem) → i.tick < j.tick → (g < n) ⊎ (n ≤ g) → with_tick t g < j.tick
        sooner-than g b j lt (inl old) = omega (arith, old-tick t g old, before g old, lt)
        sooner-than g b j lt (inr new) = omega (arith, at-new g b new, lt)

    pub timed-opens : (d : ℕ) → TellsPlaces p l n xs ts d → HasPlaces p l (suc n) xs (ts ++ n ∷ []) (cond (nat_le i.tick l.horizon) (Some d) None)
    timed-opens d tells = by_horizon (nat_le i.tick l.horizon) refl
      where
        by_horizon : (b : Bool) → nat_le i.tick l.horizon ≡ b → HasPlaces p l (suc n) xs (ts ++ n ∷ []) (cond b (Some d) None)
        by_horizon true e = record {
          within = tells.within;
          before = λ now t clock at. tells.before now t clock (front now t at known.opens);
          after = λ now le. let places = tells.after now le in (with_tick places.0, appended now places.0 places.1 (leb-true i.tick l.horizon e));
        }
        by_horizon false e = λ now t at. omega (arith, at.within n (omega arith), stands-there now (suc n) n t at, leb-false i.tick l.horizon e)

    -- two timed items in one group have two ticks
    pub timed-joins : (g j : ℕ) → j < length ts → slice_get ts j ≡ Some g → HasPlaces p l n xs (ts ++ g ∷ []) None
    timed-joins g j lt e now t at =
        let other = there p.timed j (omega (arith, lt, known.bounded)) in
        let tick : t g ≡ other.0.tick = of-there (λ q. t g ≡ q.tick) (slice_get p.timed j) other.0 other.1 (stands-before now n g t at j g e) in
        omega (arith, tick, stands-there now n g t at, in-turn p.timed sorted j (length ts) other.0 i lt other.1 here)
