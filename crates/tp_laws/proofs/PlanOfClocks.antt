-- One mark more of a word, and where its timed items stand.
use Rattle.std.proofs.Common.{◌≡◌, refl, sym, ap, ◌∙◌, ℕ, zero, suc, ◌+◌, ◌-◌, ◌<◌, ◌≤◌, Bool, true, false, cond, List, [], ◌∷◌, ◌++◌, length, Option, Some, ◌⊎◌, inl, inr, arith, append_assoc, append-nil}
use Rattle.std.specs.Prelude.{slice_get, ◌==◌}
use Rattle.std.proofs.lemmas.Bool.{eqb-true, eq-eqb, false≢true, cases_lt, cases_order}
use Rattle.std.proofs.lemmas.List.{length-append}
use Rattle.std.proofs.lemmas.Option.{slice_get_within}
use Rattle.tp_spec.specs.declared.plan.Item.{Item}
use Rattle.tp_spec.specs.declared.plan.Item.TheVariants.{TimedAt}
use Rattle.tp_spec.specs.declared.plan.Mark.{Mark}
use Rattle.tp_spec.specs.declared.plan.Timed.{Timed}
use Rattle.tp_spec.specs.declared.problem.Problem.{Problem}
use Rattle.tp_spec.specs.declared.problem.TimedItem.{TimedItem}
use Rattle.tp_spec.specs.Lists.{some_and}
use Rattle.tp_spec.specs.Courses.{stands}
use Rattle.tp_spec.specs.Words.{groups, acts_of, with_act, timed_from, timed_of, timed_group}
use Rattle.tp_laws.proofs.Ends.{groups-append}
use Rattle.tp_laws.proofs.Ends.{acts-append}
use Rattle.tp_laws.proofs.ClockActs.{there}
use Rattle.tp_laws.proofs.PlanOfBeside.{Pairs}
use Rattle.tp_laws.proofs.PlanOfOrders.{some-at, pairs-get}

pub timed-append : (n : ℕ) (u v : List Mark) → timed_from n (u ++ v) ≡ timed_from n u ++ timed_from (n + groups u) v
timed-append n [] v = let e : n ≡ n + 0 = omega arith in ap (λ k. timed_from k v) e
timed-append n (m ∷ u) v =
    let k : ℕ = cond m.fresh (n + 1) n in
    let e : k + groups u ≡ n + (cond m.fresh 1 0 + groups u) = elim m.fresh as (λ b. cond b (n + 1) n + groups u ≡ n + (cond b 1 0 + groups u)) [ true ↦ omega arith | false ↦ omega arith ] in
    ap (λ ks. timed_group (k - 1) m.item ++ ks) (timed-append k u v ∙ ap (λ j. timed_from k u ++ timed_from j v) e)
    ∙ sym (append_assoc (timed_group (k - 1) m.item) (timed_from k u) (timed_from (n + (cond m.fresh 1 0 + groups u)) v))

-- a word with one mark more, whose item stands in group g
pub record Emits (p : Problem) (u v : List Mark) (i : Item) (g : ℕ) : Type 0 where
  pub acts : acts_of p v ≡ with_act p g i (acts_of p u)
  pub timed : timed_of v ≡ timed_of u ++ timed_group g i
  pub count : groups v ≡ suc g
  pub below : (h : ℕ) → h < groups v → (h < groups u) ⊎ (h ≡ g)

pub emits : (p : Problem) (u : List Mark) (fresh : Bool) (i : Item) (g : ℕ) → groups u ≡ cond fresh g (suc g) → Emits p u (u ++ record { fresh = fresh; item = i } ∷ []) i g
emits p u fresh i g counted = record {
  acts = acts-append p 0 u (record { fresh = fresh; item = i } ∷ []) [] ∙ ap (λ k. with_act p k i (acts_of p u)) (group fresh counted);
  timed = timed-append 0 u (record { fresh = fresh; item = i } ∷ [])
      ∙ ap (λ ks. timed_of u ++ ks) (append-nil (timed_group (cond fresh (0 + groups u + 1) (0 + groups u) - 1) i) ∙ ap (λ k. timed_group k i) (group fresh counted));
  count = groups-append u (record { fresh = fresh; item = i } ∷ []) ∙ more fresh counted;
  below = λ h lt. by_fresh fresh counted h (omega (arith, lt, groups-append u (record { fresh = fresh; item = i } ∷ []) ∙ more fresh counted));
}
  where
    group : (b : Bool) → groups u ≡ cond b g (suc g) → cond b (0 + groups u + 1) (0 + groups u) - 1 ≡ g
    group true e = omega (arith, e)
    group false e = omega (arith, e)

    more : (b : Bool) → groups u ≡ cond b g (suc g) → groups u + (cond b 1 0 + 0) ≡ suc g
    more true e = omega (arith, e)
    more false e = omega (arith, e)

    by_fresh : (b : Bool) → groups u ≡ cond b g (suc g) → (h : ℕ) → h < suc g → (h < groups u) ⊎ (h ≡ g)
    by_fresh b e h lt = by_order (cases_lt h g)
      where
        old : (b : Bool) → groups u ≡ cond b g (suc g) → h < g → h < groups u
        old true e k = omega (arith, e, k)
        old false e k = omega (arith, e, k)

        by_order : (h < g) ⊎ (g ≤ h) → (h < groups u) ⊎ (h ≡ g)
        by_order (inl k) = inl (old b e k)
        by_order (inr k) = inr (omega (arith, lt, k))

-- each group of the longer word is no later than a tick
pub ticks-more : (p : Problem) (tick : ℕ → ℕ) (u v : List Mark) (i : Item) (g t : ℕ) → Emits p u v i g → tick g ≤ t → ((h : ℕ) → h < groups u → tick h ≤ t) → (h : ℕ) → h < groups v → tick h ≤ t
ticks-more p tick u v i g t e at old h lt = by_old (e.below h lt)
  where
    by_old : (h < groups u) ⊎ (h ≡ g) → tick h ≤ t
    by_old (inl k) = old h k
    by_old (inr k) = omega (arith, at, ap tick k)

same-at : {A : Type 0} (o : Option A) (x y : A) → o ≡ Some x → o ≡ Some y → x ≡ y
same-at o x y d e = let both : Some x ≡ Some y = sym d ∙ e in cc

pub push-get : (xs : List ℕ) (g j h : ℕ) → slice_get (xs ++ g ∷ []) j ≡ Some h → (slice_get xs j ≡ Some h) ⊎ ((j ≡ length xs) × (g ≡ h))
push-get [] g zero h e = inr (refl, cc)
push-get [] g (suc j) h e = absurd cc
push-get (x ∷ xs) g zero h e = inl e
push-get (x ∷ xs) g (suc j) h e = by_place (push-get xs g j h e)
  where
    by_place : (slice_get xs j ≡ Some h) ⊎ ((j ≡ length xs) × (g ≡ h)) → (slice_get xs j ≡ Some h) ⊎ ((suc j ≡ suc (length xs)) × (g ≡ h))
    by_place (inl d) = inl d
    by_place (inr d) = inr (ap suc d.0, d.1)

module _ (p : Problem) (tick : ℕ → ℕ) where
  -- the timed items of a word, up to place k of tick t
  pub record Clocked (t k : ℕ) (u : List Mark) : Type 0 where
    pub stand : (j g : ℕ) (i : TimedItem) → slice_get (timed_of u) j ≡ Some g → slice_get p.timed j ≡ Some i → tick g ≡ i.tick
    pub past : (j : ℕ) (i : TimedItem) → j < length (timed_of u) → slice_get p.timed j ≡ Some i → (i.tick < t) ⊎ ((i.tick ≡ t) × (j < k))
    pub next : (j : ℕ) (i : TimedItem) → length (timed_of u) ≤ j → slice_get p.timed j ≡ Some i → (t < i.tick) ⊎ ((t ≡ i.tick) × (k ≤ j))
    pub early : (g : ℕ) (i : TimedItem) → g < groups u → slice_get p.timed (length (timed_of u)) ≡ Some i → tick g < i.tick

  pub clock-skip : (acts : List Timed) (t k : ℕ) (u : List Mark) → stands p acts t (TimedAt k) ≡ false → Clocked t k u → Clocked t (suc k) u
  clock-skip acts t k u off c = record {
    stand = c.stand;
    past = λ j i b e. wider j i (c.past j i b e);
    next = λ j i b e. narrower j i e (c.next j i b e);
    early = c.early;
  }
    where
      wider : (j : ℕ) (i : TimedItem) → (i.tick < t) ⊎ ((i.tick ≡ t) × (j < k)) → (i.tick < t) ⊎ ((i.tick ≡ t) × (j < suc k))
      wider j i (inl b) = inl b
      wider j i (inr b) = inr (b.0, omega (arith, b.1))

      not_here : (i : TimedItem) → t ≡ i.tick → slice_get p.timed k ≡ Some i → ⊥
      not_here i e d = false≢true (sym off ∙ ap (λ o. some_and o (λ x. x.tick == t)) d ∙ eq-eqb i.tick t (sym e))

      narrower : (j : ℕ) (i : TimedItem) → slice_get p.timed j ≡ Some i → (t < i.tick) ⊎ ((t ≡ i.tick) × (k ≤ j)) → (t < i.tick) ⊎ ((t ≡ i.tick) × (suc k ≤ j))
      narrower j i e (inl b) = inl b
      narrower j i e (inr b) =
          let le = b.1 in
          let ne : j ≡ k → ⊥ = λ s. not_here i b.0 (ap (slice_get p.timed) (sym s) ∙ e) in
          inr (b.0, omega (arith, le, ne))

  -- past all timed items of a tick
  pub clock-next : (t : ℕ) (u : List Mark) → Clocked t (length p.timed) u → Clocked (suc t) 0 u
  clock-next t u c = record {
    stand = c.stand;
    past = λ j i b e. inl (gone j i (c.past j i b e));
    next = λ j i b e. coming j i e (c.next j i b e);
    early = c.early;
  }
    where
      gone : (j : ℕ) (i : TimedItem) → (i.tick < t) ⊎ ((i.tick ≡ t) × (j < length p.timed)) → i.tick < suc t
      gone j i (inl b) = omega (arith, b)
      gone j i (inr b) = omega (arith, b.0)

      coming : (j : ℕ) (i : TimedItem) → slice_get p.timed j ≡ Some i → (t < i.tick) ⊎ ((t ≡ i.tick) × (length p.timed ≤ j)) → (suc t < i.tick) ⊎ ((suc t ≡ i.tick) × (0 ≤ j))
      coming j i e (inl b) = by_order (cases_lt (suc t) i.tick)
        where
          by_order : (suc t < i.tick) ⊎ (i.tick ≤ suc t) → (suc t < i.tick) ⊎ ((suc t ≡ i.tick) × (0 ≤ j))
          by_order (inl d) = inl d
          by_order (inr d) = inr (omega (arith, b, d), omega arith)
      coming j i e (inr b) = absurd (omega (arith, b.1, slice_get_within p.timed j i e))

  -- another item at the tick
  pub clock-other : (t g : ℕ) (u v : List Mark) (i : Item) → Emits p u v i g → timed_group g i ≡ [] → tick g ≡ t → Clocked (suc t) 0 u → Clocked (suc t) 0 v
  clock-other t g u v i e none at c = record {
    stand = λ j h x d. c.stand j h x (ap (λ ks. slice_get ks j) (sym same) ∙ d);
    past = λ j x b. c.past j x (omega (arith, b, ap length same));
    next = λ j x b. c.next j x (omega (arith, b, ap length same));
    early = λ h x b d. by_old h x (e.below h b) (ap (λ ks. slice_get p.timed (length ks)) (sym same) ∙ d);
  }
    where
      same : timed_of v ≡ timed_of u
      same = e.timed ∙ ap (λ ks. timed_of u ++ ks) none ∙ append-nil (timed_of u)

      above : (j : ℕ) (x : TimedItem) → (suc t < x.tick) ⊎ ((suc t ≡ x.tick) × (0 ≤ j)) → t < x.tick
      above j x (inl b) = omega (arith, b)
      above j x (inr b) = omega (arith, b.0)

      by_old : (h : ℕ) (x : TimedItem) → (h < groups u) ⊎ (h ≡ g) → slice_get p.timed (length (timed_of u)) ≡ Some x → tick h < x.tick
      by_old h x (inl b) d = c.early h x b d
      by_old h x (inr b) d = omega (arith, ap tick b, at, above (length (timed_of u)) x (c.next (length (timed_of u)) x (omega arith) d))

  -- the timed item of the tick
  pub clock-emit : (acts : List Timed) (t k g : ℕ) (u v : List Mark) → Pairs {A = TimedItem} (λ r s. r.tick < s.tick) p.timed → stands p acts t (TimedAt k) ≡ true → Emits p u v (TimedAt k) g → tick g ≡ t
      → ((h : ℕ) → h < groups v → tick h ≤ t) → Clocked t k u → Clocked t (suc k) v
  clock-emit acts t k g u v rise on e at ticks c = record {
    stand = λ j h x d f. stand_at j h x (push-get (timed_of u) g j h (ap (λ ks. slice_get ks j) (sym e.timed) ∙ d)) f;
    past = λ j x b f. past_at j x b (cases_lt j (length (timed_of u))) f;
    next = λ j x b f. inl (behind j x (omega (arith, b, longer)) f);
    early = λ h x b f. let le = ticks h b in let lt = behind (length (timed_of v)) x (omega (arith, longer)) f in omega (arith, le, lt);
  }
    where
      item : (x : TimedItem) × (slice_get p.timed k ≡ Some x) × ((x.tick == t) ≡ true)
      item = some-at (slice_get p.timed k) (λ x. x.tick == t) on

      at_tick : item.0.tick ≡ t
      at_tick = eqb-true item.0.tick t item.2

      no_later : (n : ℕ) → (t < item.0.tick) ⊎ ((t ≡ item.0.tick) × (k ≤ n)) → k ≤ n
      no_later n (inl b) = absurd (omega (arith, b, at_tick))
      no_later n (inr b) = b.1

      first_at : (n : ℕ) (x : TimedItem) → n < k → slice_get p.timed n ≡ Some x → (t < x.tick) ⊎ ((t ≡ x.tick) × (k ≤ n)) → ⊥
      first_at n x lt d (inl b) = omega (arith, b, pairs-get (λ r s. r.tick < s.tick) p.timed n k x item.0 rise lt d item.1, at_tick)
      first_at n x lt d (inr b) = omega (arith, lt, b.1)

      not_past : (i : TimedItem) → (i.tick < t) ⊎ ((i.tick ≡ t) × (k < k)) → i.tick ≡ t → ⊥
      not_past i (inl b) d = omega (arith, b, d)
      not_past i (inr b) d = omega (arith, b.1)

      is_next : length (timed_of u) ≡ k
      is_next = by_order (cases_order (length (timed_of u)) k)
        where
          by_order : (length (timed_of u) ≡ k) ⊎ ((length (timed_of u) < k) ⊎ (k < length (timed_of u))) → length (timed_of u) ≡ k
          by_order (inl d) = d
          by_order (inr (inl b)) =
              let x = there p.timed (length (timed_of u)) (omega (arith, b, slice_get_within p.timed k item.0 item.1)) in
              absurd (first_at (length (timed_of u)) x.0 b x.1 (c.next (length (timed_of u)) x.0 (omega arith) x.1))
          by_order (inr (inr b)) = absurd (not_past item.0 (c.past k item.0 b item.1) at_tick)

      longer : length (timed_of v) ≡ suc k
      longer = ap length e.timed ∙ length-append (timed_of u) (g ∷ []) ∙ plus_one
        where
          plus_one : length (timed_of u) + 1 ≡ suc k
          plus_one = omega (arith, is_next)

      behind : (j : ℕ) (x : TimedItem) → suc k ≤ j → slice_get p.timed j ≡ Some x → t < x.tick
      behind j x b f = omega (arith, pairs-get (λ r s. r.tick < s.tick) p.timed k j item.0 x rise (omega (arith, b)) item.1 f, at_tick)

      here : (j : ℕ) (x : TimedItem) → j ≡ k → slice_get p.timed j ≡ Some x → x.tick ≡ t
      here j x s f = ap (λ y. y.tick) (same-at (slice_get p.timed k) x item.0 (ap (slice_get p.timed) (sym s) ∙ f) item.1) ∙ at_tick

      stand_at : (j h : ℕ) (x : TimedItem) → (slice_get (timed_of u) j ≡ Some h) ⊎ ((j ≡ length (timed_of u)) × (g ≡ h)) → slice_get p.timed j ≡ Some x → tick h ≡ x.tick
      stand_at j h x (inl d) f = c.stand j h x d f
      stand_at j h x (inr d) f = ap tick (sym d.1) ∙ at ∙ sym (here j x (d.0 ∙ is_next) f)

      wider : (j : ℕ) (x : TimedItem) → (x.tick < t) ⊎ ((x.tick ≡ t) × (j < k)) → (x.tick < t) ⊎ ((x.tick ≡ t) × (j < suc k))
      wider j x (inl b) = inl b
      wider j x (inr b) = inr (b.0, omega (arith, b.1))

      past_at : (j : ℕ) (x : TimedItem) → j < length (timed_of v) → (j < length (timed_of u)) ⊎ (length (timed_of u) ≤ j) → slice_get p.timed j ≡ Some x → (x.tick < t) ⊎ ((x.tick ≡ t) × (j < suc k))
      past_at j x b (inl o) f = wider j x (c.past j x o f)
      past_at j x b (inr o) f = inr (here j x (omega (arith, b, o, longer, is_next)) f, omega (arith, b, longer))
