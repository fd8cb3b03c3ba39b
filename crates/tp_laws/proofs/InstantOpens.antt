-- A start of an instant action that opens a group, over plain lists of acts and timed items.
use Rattle.std.proofs.Common.{◌≡◌, refl, sym, ap, subst, ◌∙◌, ℕ, suc, ◌+◌, ◌-◌, ◌<◌, ◌≤◌, ◌⊎◌, inl, inr, Bool, true, false, ◌&&◌, List, [], ◌∷◌, ◌++◌, length, Option, Some, None, arith, nat_lt, nat_le, cond, length-append, IfSome, slice_get}
use Rattle.std.proofs.lemmas.Bool.{ltb-true, ltb-false, cases_lt, leb-true, leb-false, le-leb, lt-leb, false≢true}
use Rattle.tp_spec.specs.declared.plan.Limits.{Limits}
use Rattle.tp_spec.specs.declared.problem.Problem.{Problem}
use Rattle.tp_spec.specs.declared.problem.TimedItem.{TimedItem}
use Rattle.tp_spec.specs.Lists.{some_and}
use Rattle.tp_spec.specs.Words.{Act}
use Rattle.tp_laws.specs.Instants.{first_group, last_group, first_or, tick_of, ticks_in, least_from, opened_by}
use Rattle.tp_laws.proofs.EarlyLists.{Rising, in-right}
use Rattle.tp_laws.proofs.ClockLaws.{ticks_rise}
use Rattle.tp_laws.proofs.WordOfTimes.{sooner}
use Rattle.tp_laws.proofs.InstantActs.{Placed, Places}
use Rattle.tp_laws.proofs.InstantTicks.{Facts, from-first, first-from, first-inside, last-tick, last-inside, low, no-items, far, under, under-all, under-next}
use Rattle.tp_laws.proofs.InstantJoins.{TellsPlaces, HasPlaces, fewer, first-push}

-- ticks up to a group, and others behind it
abbrev pub turned : ℕ → (ℕ → ℕ) → (ℕ → ℕ) → ℕ → ℕ
turned h t u g = cond (nat_le g h) (t g) (u g)

turned-low : (h : ℕ) (t u : ℕ → ℕ) (g : ℕ) → g ≤ h → turned h t u g ≡ t g
turned-low h t u g le = ap (λ b. cond b (t g) (u g)) (le-leb g h le)

turned-high : (h : ℕ) (t u : ℕ → ℕ) (g : ℕ) → h < g → turned h t u g ≡ u g
turned-high h t u g lt = ap (λ b. cond b (t g) (u g)) (lt-leb g h lt)

timed-same : (t u : ℕ → ℕ) (o : Option ℕ) (q : Option TimedItem) → ((g : ℕ) → o ≡ Some g → u g ≡ t g) → IfSome o (λ g. IfSome q (λ i. t g ≡ i.tick)) → IfSome o (λ g. IfSome q (λ i. u g ≡ i.tick))
timed-same t u None q same h = tt
timed-same t u (Some g) None same h = tt
timed-same t u (Some g) (Some i) same h = same g refl ∙ h

module _ (p : Problem) (l : Limits) (n : ℕ) (xs : List Act) (ts : List ℕ) (x : Act) (sorted : Rising sooner p.timed) (known : Facts p n xs ts) (more : Facts p (suc n) (xs ++ x ∷ []) ts) (opened : x.opens ≡ n) where
  one-more : length (xs ++ x ∷ []) ≡ length xs + 1
  one-more = length-append xs (x ∷ [])

  -- how many ticks there are up to the horizon and before the next timed item
  abbrev room : ℕ
  room = ticks_in (l.horizon + 1) (slice_get p.timed (length ts))

  from-last : (now : ℕ) (t : ℕ → ℕ) → Placed p l now (suc n) (xs ++ x ∷ []) ts t → now ≤ t n
  from-last now t at = subst (λ (h : ℕ). now ≤ t h) opened (at.from x (in-right x xs (x ∷ []) (inl refl)))

  in-room : (now : ℕ) (t : ℕ → ℕ) → Placed p l now (suc n) (xs ++ x ∷ []) ts t → t n < room
  in-room now t at =
      let within = at.within n (omega arith) in
      under (l.horizon + 1) (t n) (slice_get p.timed (length ts)) (omega (arith, within)) (at.before_next n (omega arith))

  -- the new group stands no earlier than this
  at-least : (now : ℕ) (t : ℕ → ℕ) → Placed p l now (suc n) (xs ++ x ∷ []) ts t → (o : Option ℕ) → last_group ts ≡ o → least_from n (tick_of p (length ts - 1)) o ≤ t n
  at-least now t at None e = omega (arith, far (suc n) t at.rises 0 n (omega arith) (omega arith))
  at-least now t at (Some h) e =
      let before = fewer p l now n (suc n) xs (x ∷ []) ts t (omega arith) at in
      let inside : h < n = last-inside p n xs ts known l now t before h e in
      omega (arith, far (suc n) t at.rises h n (omega (arith, inside)) (omega arith), last-tick p n xs ts known l now t before h e)

  -- ticks of the longer word
  placed-more : (now f : ℕ) (t : ℕ → ℕ) → ((g : ℕ) → suc g < suc n → t g < t (suc g)) → t n < room → ((k : ℕ) → IfSome (slice_get ts k) (λ g. IfSome (slice_get p.timed k) (λ i. t g ≡ i.tick))) → length xs < l.actions
      → first_group (xs ++ x ∷ []) ≡ Some f → now ≤ t f → Placed p l now (suc n) (xs ++ x ∷ []) ts t
  placed-more now f t rises within timed few e le = record {
    rises = rises;
    within = λ g b. let lt = under-all (l.horizon + 1) (t g) (slice_get p.timed (length ts)) (below g b) in omega (arith, lt);
    timed = timed;
    before_next = λ g b. under-next (l.horizon + 1) (t g) (slice_get p.timed (length ts)) (below g b);
    from = from-first p (suc n) (xs ++ x ∷ []) ts more now f t rises e le;
    few = omega (arith, few, one-more);
  }
    where
      below : (g : ℕ) → g < suc n → t g < room
      below g b = omega (arith, within, ticks_rise (suc n) t rises g n (omega (arith, b)) (omega arith))

  -- without timed items
  spread-none : (now f : ℕ) (u : ℕ → ℕ) → last_group ts ≡ None → ((g : ℕ) → g < n → u g < u (suc g)) → u n < room → length xs < l.actions → first_group (xs ++ x ∷ []) ≡ Some f → now ≤ u f → Places p l now (suc n) (xs ++ x ∷ []) ts
  spread-none now f u none rises within few e le =
      (u, placed-more now f u (λ g b. rises g (omega (arith, b))) within (λ k. subst (λ o. IfSome o (λ g. IfSome (slice_get p.timed k) (λ i. u g ≡ i.tick))) (sym (no-items ts none k)) tt) few e le)

  -- behind the last timed item
  spread-some : (past now f h : ℕ) (t u : ℕ → ℕ) → last_group ts ≡ Some h → Placed p l past n xs ts t → ((g : ℕ) → h < g → g < n → u g < u (suc g)) → t h < u (suc h) → u n < room → length xs < l.actions → first_group (xs ++ x ∷ []) ≡ Some f → now ≤ turned h t u f → Places p l now (suc n) (xs ++ x ∷ []) ts
  spread-some past now f h t u last at rises turn within few e le = (
    turned h t u,
    placed-more now f (turned h t u) (λ g b. up g (omega (arith, b)) (cases_lt g h)) (subst (λ (k : ℕ). k < room) (sym (turned-high h t u n inside)) within)
        (λ k. timed-same t (turned h t u) (slice_get ts k) (slice_get p.timed k) (λ g d. turned-low h t u g (low p n xs ts known l past t at sorted h k g last d)) (at.timed k)) few e le,
  )
    where
      inside : h < n
      inside = last-inside p n xs ts known l past t at h last

      over : (g : ℕ) → g < n → (h < g) ⊎ (g ≤ h) → h ≤ g → turned h t u g < turned h t u (suc g)
      over g b (inl lt) le = omega (arith, turned-high h t u g lt, turned-high h t u (suc g) (omega (arith, lt)), rises g lt b)
      over g b (inr ge) le =
          let same : h ≡ g = omega (arith, ge, le) in
          subst (λ (k : ℕ). turned h t u k < turned h t u (suc k)) same (omega (arith, turned-low h t u h (omega arith), turned-high h t u (suc h) (omega arith), turn))

      up : (g : ℕ) → g < n → (g < h) ⊎ (h ≤ g) → turned h t u g < turned h t u (suc g)
      up g b (inl lt) = omega (arith, turned-low h t u g (omega (arith, lt)), turned-low h t u (suc g) (omega (arith, lt)), at.rises g (omega (arith, lt, inside)))
      up g b (inr ge) = over g b (cases_lt h g) ge

  module _ (d : ℕ) (tells : TellsPlaces p l n xs ts d) (few : length xs < l.actions) where
    -- each group behind the last timed item, or each one, so late as the later ones allow
    late-places : (now f : ℕ) (o : Option ℕ) → last_group ts ≡ o → least_from n (tick_of p (length ts - 1)) o < room → first_group (xs ++ x ∷ []) ≡ Some f → some_and o (nat_le f) ≡ false → now ≤ room - 1 - (n - f) → Places p l now (suc n) (xs ++ x ∷ []) ts
    late-places now f None last least e behind le =
        spread-none now f (λ g. room - 1 - (n - g)) last (λ g b. omega (arith, b, least)) (omega (arith, least)) few e le
    late-places now f (Some h) last least e behind le =
        let start = tells.after 0 (omega arith) in
        let tick : start.0 h ≡ tick_of p (length ts - 1) = last-tick p n xs ts known l 0 start.0 start.1 h last in
        let inside : h < n = last-inside p n xs ts known l 0 start.0 start.1 h last in
        spread-some 0 now f h start.0 (λ g. room - 1 - (n - g)) last start.1 (λ g lt b. omega (arith, b, lt, least)) (omega (arith, tick, inside, least)) (omega (arith, least)) few e
        (subst (λ (k : ℕ). now ≤ k) (sym (turned-high h start.0 (λ g. room - 1 - (n - g)) f (leb-false f h behind))) le)

    -- the groups behind the last timed item so early as can be
    early-places : (now f h : ℕ) → last_group ts ≡ Some h → tick_of p (length ts - 1) + (n - h) < room → first_group xs ≡ Some f → f ≤ h → now ≤ d → Places p l now (suc n) (xs ++ x ∷ []) ts
    early-places now f h last least e le below =
        let places = tells.after now below in
        let tick : places.0 h ≡ tick_of p (length ts - 1) = last-tick p n xs ts known l now places.0 places.1 h last in
        let from : now ≤ places.0 f = first-from p n xs ts known l now places.0 places.1 f e in
        spread-some now now f h places.0 (λ g. tick_of p (length ts - 1) + (g - h)) last places.1 (λ g lt b. omega (arith, lt)) (omega (arith, tick)) least few (first-push xs x ∙ ap (λ o. first_or o x.opens) e)
        (subst (λ (k : ℕ). now ≤ k) (sym (turned-low h places.0 (λ g. tick_of p (length ts - 1) + (g - h)) f le)) from)

    -- where the first start is held by a timed item, the deadline stays
    held : (f h : ℕ) → last_group ts ≡ Some h → tick_of p (length ts - 1) + (n - h) < room → first_group xs ≡ Some f → f ≤ h → TellsPlaces p l (suc n) (xs ++ x ∷ []) ts d
    held f h last least e le = record {
      within = tells.within;
      before = λ now t clock at. tells.before now t clock (fewer p l now n (suc n) xs (x ∷ []) ts t (omega arith) at);
      after = λ now below. early-places now f h last least e le below;
    }

    -- else it is so many ticks before the last one as there are groups behind it
    free : (f : ℕ) (o : Option ℕ) → last_group ts ≡ o → least_from n (tick_of p (length ts - 1)) o < room → first_group (xs ++ x ∷ []) ≡ Some f → some_and o (nat_le f) ≡ false → TellsPlaces p l (suc n) (xs ++ x ∷ []) ts (room - 1 - (n - f))
    free f o last least e behind = record {
      within = room-small;
      before = λ now t clock at.
          let inside : f < suc n = first-inside p (suc n) (xs ++ x ∷ []) ts more f e in
          let from : now ≤ t f = first-from p (suc n) (xs ++ x ∷ []) ts more l now t at f e in
          omega (arith, from, inside, far (suc n) t at.rises f n (omega (arith, inside)) (omega arith), in-room now t at);
      after = λ now below. late-places now f o last least e behind below;
    }
      where
        room-small : room - 1 - (n - f) ≤ l.horizon + 1
        room-small = elim (cases_lt (room - 1) (l.horizon + 2)) [
          | inl lt ↦ omega (arith, lt)
          | inr ge ↦ absurd (omega (arith, ge, under-all (l.horizon + 1) (room - 1) (slice_get p.timed (length ts)) (omega (arith, least))))
        ]

    -- a word that has a start
    by-start : (f : ℕ) (o : Option ℕ) → last_group ts ≡ o → least_from n (tick_of p (length ts - 1)) o < room → first_group xs ≡ Some f → (b : Bool) → some_and o (nat_le f) ≡ b → TellsPlaces p l (suc n) (xs ++ x ∷ []) ts (cond b d (room - 1 - (n - f)))
    by-start f (Some h) last least e true at = held f h last least e (leb-true f h at)
    by-start f None last least e true at = absurd (false≢true at)
    by-start f o last least e false at = free f o last least (first-push xs x ∙ ap (λ q. first_or q x.opens) e) at

    -- the new group is behind the last timed item
    behind : (o : Option ℕ) → last_group ts ≡ o → some_and o (nat_le n) ≡ false
    behind None last = refl
    behind (Some h) last =
        let start = tells.after 0 (omega arith) in
        lt-leb n h (last-inside p n xs ts known l 0 start.0 start.1 h last)

    by-first : (q : Option ℕ) → first_group xs ≡ q → (o : Option ℕ) → last_group ts ≡ o → least_from n (tick_of p (length ts - 1)) o < room → TellsPlaces p l (suc n) (xs ++ x ∷ []) ts (opened_by d (room - 1) n o q)
    by-first None e o last least =
        let same : room - 1 - (n - n) ≡ room - 1 = omega arith in
        subst (λ (k : ℕ). TellsPlaces p l (suc n) (xs ++ x ∷ []) ts k) same
        (free n o last least (first-push xs x ∙ ap (λ q. first_or q x.opens) e ∙ ap Some opened) (behind o last))
    by-first (Some f) e o last least = by-start f o last least e (some_and o (nat_le f)) refl

  pub start-opens : (d : ℕ) → TellsPlaces p l n xs ts d → HasPlaces p l (suc n) (xs ++ x ∷ []) ts
      (cond (nat_lt (length xs) l.actions && nat_lt (least_from n (tick_of p (length ts - 1)) (last_group ts)) room) (Some (opened_by d (room - 1) n (last_group ts) (first_group xs))) None)
  start-opens d tells = by_tests (nat_lt (length xs) l.actions) refl (nat_lt (least_from n (tick_of p (length ts - 1)) (last_group ts)) room) refl
    where
      by_tests : (b : Bool) → nat_lt (length xs) l.actions ≡ b → (c : Bool) → nat_lt (least_from n (tick_of p (length ts - 1)) (last_group ts)) room ≡ c
          → HasPlaces p l (suc n) (xs ++ x ∷ []) ts (cond (b && c) (Some (opened_by d (room - 1) n (last_group ts) (first_group xs))) None)
      by_tests true e true f = by-first d tells (ltb-true (length xs) l.actions e) (first_group xs) refl (last_group ts) refl (ltb-true (least_from n (tick_of p (length ts - 1)) (last_group ts)) room f)
      by_tests true e false f = λ now t at. omega (arith, in-room now t at, at-least now t at (last_group ts) refl, ltb-false (least_from n (tick_of p (length ts - 1)) (last_group ts)) room f)
      by_tests false e c f = λ now t at. omega (arith, at.few, one-more, ltb-false (length xs) l.actions e)
