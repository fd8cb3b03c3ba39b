-- What is known of each front of a plan's word.
use Rattle.std.proofs.Common.{◌≡◌, refl, sym, ap, subst, ◌∙◌, ℕ, zero, suc, ◌<◌, ◌≤◌, Bool, true, false, cond, List, [], ◌∷◌, ◌++◌, length, map, Some, ◌⊎◌, inl, inr, arith}
use Rattle.std.specs.Prelude.{slice_get}
use Rattle.std.specs.List.{AllByRecursion as Each, filter, range_with_len}
use Rattle.std.proofs.lemmas.Bool.{cases_lt}
use Rattle.std.proofs.lemmas.List.Elements.{filter-append}
use Rattle.tp_spec.specs.declared.plan.Item.{Item}
use Rattle.tp_spec.specs.declared.plan.Item.TheVariants.{TimedAt, End, Start}
use Rattle.tp_spec.specs.declared.plan.Mark.{Mark}
use Rattle.tp_spec.specs.declared.plan.Timed.{Timed}
use Rattle.tp_spec.specs.declared.problem.Problem.{Problem}
use Rattle.tp_spec.specs.declared.problem.TimedItem.{TimedItem}
use Rattle.tp_spec.specs.Lists.{IsIn, is_empty}
use Rattle.tp_spec.specs.Items.{all_items}
use Rattle.tp_spec.specs.Courses.{happening, stands}
use Rattle.tp_spec.specs.Words.{groups, marked, spelled, timed_of}
use Rattle.tp_laws.proofs.EarlyLists.{in-left, in-right}
use Rattle.tp_laws.proofs.Members.{map-in}
use Rattle.tp_laws.proofs.WordOfLists.{filter-in, range-in}
use Rattle.tp_laws.proofs.PlanOfOrders.{Plays}
use Rattle.tp_laws.proofs.PlanOfTicks.{groups_at, tick_before, tick-opened}
use Rattle.tp_laws.proofs.PlanOfPairs.{Ahead}
use Rattle.tp_laws.proofs.PlanOfClocks.{Emits, emits, Clocked, clock-skip, clock-next, clock-other, clock-emit}
use Rattle.tp_laws.proofs.PlanOfStages.{Stage, stage-timed, end-skip, end-emit, ends-past, start-skip, starts-past}
use Rattle.tp_laws.proofs.PlanOfStarts.{start-emit}
use Rattle.tp_laws.proofs.PlanOfWalk.{Along, Walked, walk, walk-on, walk-changed, along-append, marks-fresh}

some-in : {A : Type 0} (xs : List A) (x : A) → IsIn x xs → is_empty xs ≡ false
some-in [] x i = absurd i
some-in (y ∷ xs) x i = refl

each-all : {A : Type 0} (P : A → Type 0) (xs : List A) → ((x : A) → P x) → Each P xs
each-all P [] f = tt
each-all P (x ∷ xs) f = (f x, each-all P xs f)

module _ (p : Problem) (acts : List Timed) (top : ℕ) where
  -- the ticks of the groups of what is spelled before the top tick
  abbrev pub ticks_to : ℕ → ℕ
  ticks_to g = tick_before p acts top g

  -- at some place of a tick
  pub record Known (u : List Mark) : Type 0 where
    pub t : ℕ
    pub j : ℕ
    pub s : ℕ
    pub k : ℕ
    pub n : ℕ
    pub m : ℕ
    pub stage : Stage p acts ticks_to t j s k u
    pub clock : Clocked p ticks_to n m u

  -- at place k of the timed items, of the ends and of the starts of tick t
  pub record AtTimed (t k : ℕ) (u : List Mark) : Type 0 where
    pub stage : Stage p acts ticks_to t 0 t 0 u
    pub clock : Clocked p ticks_to t k u

  record AtEnds (t k : ℕ) (u : List Mark) : Type 0 where
    stage : Stage p acts ticks_to t k t 0 u
    clock : Clocked p ticks_to (suc t) 0 u

  record AtStarts (t k : ℕ) (u : List Mark) : Type 0 where
    stage : Stage p acts ticks_to (suc t) 0 t k u
    clock : Clocked p ticks_to (suc t) 0 u

  known-timed : (t k : ℕ) (u : List Mark) → AtTimed t k u → Known u
  known-timed t k u a = record { t = t; j = 0; s = t; k = 0; n = t; m = k; stage = a.stage; clock = a.clock }

  known-ends : (t k : ℕ) (u : List Mark) → AtEnds t k u → Known u
  known-ends t k u a = record { t = t; j = k; s = t; k = 0; n = suc t; m = 0; stage = a.stage; clock = a.clock }

  known-starts : (t k : ℕ) (u : List Mark) → AtStarts t k u → Known u
  known-starts t k u a = record { t = suc t; j = 0; s = t; k = k; n = suc t; m = 0; stage = a.stage; clock = a.clock }

  -- before the first mark
  at-first : AtTimed 0 0 []
  at-first = record {
    stage = record {
      done = [];
      rest = acts;
      ends = λ a. 0;
      whole = refl;
      beside = tt;
      passed = tt;
      ahead = each-all (Ahead 0 0) acts ahead_of;
      order = omega arith;
      ticks = λ g b. absurd (omega (arith, b));
    };
    clock = record {
      stand = λ j g i d e. absurd (none_at j g d);
      past = λ j i b e. absurd (omega (arith, b));
      next = λ j i b e. after j i;
      early = λ g i b e. absurd (omega (arith, b));
    };
  }
    where
      none_at : (j g : ℕ) → slice_get (timed_of []) j ≡ Some g → ⊥
      none_at j g d = absurd cc

      ahead_of : (y : Timed) → Ahead 0 0 y
      ahead_of y = by_order (cases_lt 0 y.start)
        where
          by_order : (0 < y.start) ⊎ (y.start ≤ 0) → Ahead 0 0 y
          by_order (inl b) = inl b
          by_order (inr b) = inr (omega (arith, b), omega arith)

      after : (j : ℕ) (i : TimedItem) → (0 < i.tick) ⊎ ((0 ≡ i.tick) × (0 ≤ j))
      after j i = by_order (cases_lt 0 i.tick)
        where
          by_order : (0 < i.tick) ⊎ (i.tick ≤ 0) → (0 < i.tick) ⊎ ((0 ≡ i.tick) × (0 ≤ j))
          by_order (inl b) = inl b
          by_order (inr b) = inr (omega (arith, b), omega arith)

  module _ (plays : Plays p acts) (t : ℕ) (below : t < top) where
    -- what stands at the tick names it
    named : (i : Item) → IsIn i (all_items p) → stands p acts t i ≡ true → ticks_to (groups_at p acts t) ≡ t
    named i there on = tick-opened p acts top t below (some-in (happening p acts t) i (filter-in (stands p acts t) (all_items p) i there on))

    in_numbers : (n k : ℕ) → k < n → IsIn k (range_with_len 0 n)
    in_numbers n k b = range-in k 0 n (omega arith) (omega (arith, b))

    timed_in : (k : ℕ) → k < length p.timed → IsIn (TimedAt k) (all_items p)
    timed_in k b =
        in-left (TimedAt k) (map TimedAt (range_with_len 0 (length p.timed)) ++ map End (range_with_len 0 (length p.actions))) (map Start (range_with_len 0 (length p.actions)))
        (in-left (TimedAt k) (map TimedAt (range_with_len 0 (length p.timed))) (map End (range_with_len 0 (length p.actions)))
        (map-in TimedAt k (range_with_len 0 (length p.timed)) (in_numbers (length p.timed) k b)))

    end_in : (k : ℕ) → k < length p.actions → IsIn (End k) (all_items p)
    end_in k b =
        in-left (End k) (map TimedAt (range_with_len 0 (length p.timed)) ++ map End (range_with_len 0 (length p.actions))) (map Start (range_with_len 0 (length p.actions)))
        (in-right (End k) (map TimedAt (range_with_len 0 (length p.timed))) (map End (range_with_len 0 (length p.actions)))
        (map-in End k (range_with_len 0 (length p.actions)) (in_numbers (length p.actions) k b)))

    start_in : (k : ℕ) → k < length p.actions → IsIn (Start k) (all_items p)
    start_in k b =
        in-right (Start k) (map TimedAt (range_with_len 0 (length p.timed)) ++ map End (range_with_len 0 (length p.actions))) (map Start (range_with_len 0 (length p.actions)))
        (map-in Start k (range_with_len 0 (length p.actions)) (in_numbers (length p.actions) k b))

    counts : (u : List Mark) (fresh : Bool) (i : Item) → groups u ≡ cond fresh (groups_at p acts t) (suc (groups_at p acts t)) → groups (u ++ record { fresh = fresh; item = i } ∷ []) ≡ suc (groups_at p acts t)
    counts u fresh i c = (emits p u fresh i (groups_at p acts t) c).count

    timed_emit : (k : ℕ) (u : List Mark) (fresh : Bool) → k < length p.timed → stands p acts t (TimedAt k) ≡ true → groups u ≡ cond fresh (groups_at p acts t) (suc (groups_at p acts t)) → AtTimed t k u → AtTimed t (suc k) (u ++ record { fresh = fresh; item = TimedAt k } ∷ [])
    timed_emit k u fresh b on c a =
        let v : List Mark = u ++ record { fresh = fresh; item = TimedAt k } ∷ [] in
        let e : Emits p u v (TimedAt k) (groups_at p acts t) = emits p u fresh (TimedAt k) (groups_at p acts t) c in
        let at : ticks_to (groups_at p acts t) ≡ t = named (TimedAt k) (timed_in k b) on in
        let s : Stage p acts ticks_to t 0 t 0 v = stage-timed p acts ticks_to t k (groups_at p acts t) u v e at a.stage in
        record { stage = s; clock = clock-emit p ticks_to acts t k (groups_at p acts t) u v plays.ticks on e at s.ticks a.clock }

    end_emit : (k : ℕ) (u : List Mark) (fresh : Bool) → k < length p.actions → stands p acts t (End k) ≡ true → groups u ≡ cond fresh (groups_at p acts t) (suc (groups_at p acts t)) → AtEnds t k u → AtEnds t (suc k) (u ++ record { fresh = fresh; item = End k } ∷ [])
    end_emit k u fresh b on c a =
        let v : List Mark = u ++ record { fresh = fresh; item = End k } ∷ [] in
        let e : Emits p u v (End k) (groups_at p acts t) = emits p u fresh (End k) (groups_at p acts t) c in
        let at : ticks_to (groups_at p acts t) ≡ t = named (End k) (end_in k b) on in
        record { stage = end-emit p acts ticks_to plays t k (groups_at p acts t) u v on e at a.stage; clock = clock-other p ticks_to t (groups_at p acts t) u v (End k) e refl at a.clock }

    start_emit : (k : ℕ) (u : List Mark) (fresh : Bool) → k < length p.actions → stands p acts t (Start k) ≡ true → groups u ≡ cond fresh (groups_at p acts t) (suc (groups_at p acts t)) → AtStarts t k u → AtStarts t (suc k) (u ++ record { fresh = fresh; item = Start k } ∷ [])
    start_emit k u fresh b on c a =
        let v : List Mark = u ++ record { fresh = fresh; item = Start k } ∷ [] in
        let e : Emits p u v (Start k) (groups_at p acts t) = emits p u fresh (Start k) (groups_at p acts t) c in
        let at : ticks_to (groups_at p acts t) ≡ t = named (Start k) (start_in k b) on in
        record { stage = start-emit p acts ticks_to plays t k (groups_at p acts t) u v on e at a.stage; clock = clock-other p ticks_to t (groups_at p acts t) u v (Start k) e refl at a.clock }

    abbrev Part : (List Mark → Type 0) → Bool → List Mark → List Item → Type 0
    Part P fresh u is = Walked Known (groups_at p acts t) P fresh u is

    timed_part : (u : List Mark) → groups u ≡ groups_at p acts t → AtTimed t 0 u → Part (AtEnds t 0) true u (filter (stands p acts t) (map TimedAt (range_with_len 0 (length p.timed))))
    timed_part u c a =
        walk-changed Known (groups_at p acts t) (AtTimed t (length p.timed)) (AtEnds t 0) true u _ (λ v b. record { stage = b.stage; clock = clock-next p ticks_to t v b.clock })
        (walk Known (groups_at p acts t) (stands p acts t) TimedAt (AtTimed t) (length p.timed) (known-timed t)
        (λ k v b off at. record { stage = at.stage; clock = clock-skip p ticks_to acts t k v off at.clock })
        timed_emit counts (length p.timed) 0 (omega arith) true u c a)

    end_part : (fresh : Bool) (u : List Mark) → groups u ≡ cond fresh (groups_at p acts t) (suc (groups_at p acts t)) → AtEnds t 0 u → Part (AtStarts t 0) fresh u (filter (stands p acts t) (map End (range_with_len 0 (length p.actions))))
    end_part fresh u c a =
        walk-changed Known (groups_at p acts t) (AtEnds t (length p.actions)) (AtStarts t 0) fresh u _ (λ v b. record { stage = ends-past p acts ticks_to plays t v b.stage; clock = b.clock })
        (walk Known (groups_at p acts t) (stands p acts t) End (AtEnds t) (length p.actions) (known-ends t)
        (λ k v b off at. record { stage = end-skip p acts ticks_to t k v off at.stage; clock = at.clock })
        end_emit counts (length p.actions) 0 (omega arith) fresh u c a)

    start_part : (fresh : Bool) (u : List Mark) → groups u ≡ cond fresh (groups_at p acts t) (suc (groups_at p acts t)) → AtStarts t 0 u → Part (AtTimed (suc t) 0) fresh u (filter (stands p acts t) (map Start (range_with_len 0 (length p.actions))))
    start_part fresh u c a =
        walk-changed Known (groups_at p acts t) (AtStarts t (length p.actions)) (AtTimed (suc t) 0) fresh u _ (λ v b. record { stage = starts-past p acts ticks_to plays t v b.stage; clock = b.clock })
        (walk Known (groups_at p acts t) (stands p acts t) Start (AtStarts t) (length p.actions) (known-starts t)
        (λ k v b off at. record { stage = start-skip p acts ticks_to plays t k v off at.stage; clock = at.clock })
        start_emit counts (length p.actions) 0 (omega arith) fresh u c a)

    -- all that stands at a tick
    pub walk-tick : (u : List Mark) → groups u ≡ groups_at p acts t → AtTimed t 0 u → Walked Known (groups_at p acts t) (AtTimed (suc t) 0) true u (happening p acts t)
    walk-tick u c a =
        let test : Item → Bool = stands p acts t in
        let timed : List Item = map TimedAt (range_with_len 0 (length p.timed)) in
        let ends : List Item = map End (range_with_len 0 (length p.actions)) in
        let starts : List Item = map Start (range_with_len 0 (length p.actions)) in
        let parts : happening p acts t ≡ (filter test timed ++ filter test ends) ++ filter test starts = filter-append test (timed ++ ends) starts ∙ ap (λ is. is ++ filter test starts) (filter-append test timed ends) in
        subst (Walked Known (groups_at p acts t) (AtTimed (suc t) 0) true u) (sym parts)
        (walk-on Known (groups_at p acts t) (AtStarts t 0) (AtTimed (suc t) 0) true u (filter test timed ++ filter test ends) (filter test starts)
        (walk-on Known (groups_at p acts t) (AtEnds t 0) (AtStarts t 0) true u (filter test timed) (filter test ends) (timed_part u c a) end_part)
        start_part)

  pub record Read (n : ℕ) : Type 0 where
    pub along : Along Known [] (spelled p acts n)
    pub at : AtTimed n 0 (spelled p acts n)

  -- all that stands before a tick
  pub walk-word : Plays p acts → (n : ℕ) → n ≤ top → Read n
  walk-word plays zero le = record { along = known-timed 0 0 [] at-first; at = at-first }
  walk-word plays (suc n) le =
      let r : Read n = walk-word plays n (omega (arith, le)) in
      let w = walk-tick plays n (omega (arith, le)) (spelled p acts n) refl r.at in
      record {
        along = along-append Known [] (spelled p acts n) (marked (happening p acts n)) r.along (subst (Along Known (spelled p acts n)) (marks-fresh (happening p acts n)) w.along);
        at = subst (λ v. AtTimed (suc n) 0 (spelled p acts n ++ v)) (marks-fresh (happening p acts n)) w.behind;
      }
