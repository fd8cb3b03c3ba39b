-- A walk keeps what it says, and what is known when it ends.
use Rattle.std.proofs.Common.{◌≡◌, ℕ, zero, suc, ◌+◌, ◌-◌, ◌<◌, ◌≤◌, Bool, true, false, cond, nat_eq, List, [], ◌∷◌, ◌++◌, length, get_or, set, refl, ap, sym, ◌∙◌, subst, arith, get_or-set_other, get_or-set_same, length-set, length-append, inl, inr}
use Rattle.std.proofs.lemmas.Bool.Decides.{nat_tests}
use Rattle.std.specs.Prelude.{count_by, ◌⊎◌, nat_lt}
use Rattle.std.proofs.lemmas.Grind.{common_steps}
use Rattle.std.proofs.lemmas.List.{get_or_past}
use Rattle.std.proofs.lemmas.List.Sums.{sum_by-set, sum_by-cons, count_by-le-length}
use Rattle.domain_faults.specs.Walks.{comes_to, comes_back, is_met, IsOrder, IsKnown, IsWalk, Marks}
use Rattle.domain_faults.proofs.Ways.{never, returns}

-- a number is that which was met last, or another
pub which : (a b : ℕ) → (a ≡ b) ⊎ (a ≡ b → ⊥)
which a b = here (nat_eq a b) refl
  where
    here : (t : Bool) → nat_eq a b ≡ t → (a ≡ b) ⊎ (a ≡ b → ⊥)
    here true t = inl (grind (arith, nat_tests))
    here false t = inr (λ (e : a ≡ b). grind (arith, nat_tests))

abbrev counted : ℕ → ℕ
counted p = cond (is_met p) 1 0

one_more : (places : List ℕ) (at y : ℕ) → at < length places → get_or places at 0 ≡ 0 → count_by is_met (set places at (suc y)) ≡ suc (count_by is_met places)
one_more places at y lt z =
    let h : count_by is_met (set places at (suc y)) + counted (get_or places at 0) ≡ count_by is_met places + 1 = sum_by-set counted places at (suc y) 0 lt in
    let g : counted (get_or places at 0) ≡ 0 = ap counted z in
    omega (arith, h, g)

-- one number more
pub order_step : (places order : List ℕ) (at : ℕ) → IsOrder places order → at < length places → get_or places at 0 ≡ 0 → IsOrder (set places at (suc (length order))) (order ++ at ∷ [])
order_step places order at o lt z = record {
  number = one_more places at (length order) lt z ∙ ap suc o.number ∙ grind (arith, common_steps);
  forth = λ i h. forth i h (which i (length order));
  back = λ v i h. back v i h (which v at);
}
  where
    forth : (i : ℕ) → i < length (order ++ at ∷ []) → (i ≡ length order) ⊎ (i ≡ length order → ⊥) → get_or (set places at (suc (length order))) (get_or (order ++ at ∷ []) i 0) 0 ≡ suc i
    forth i h (inl e) =
        let q : get_or (order ++ at ∷ []) i 0 ≡ at = grind (arith, common_steps) in
        ap (λ v. get_or (set places at (suc (length order))) v 0) q ∙ get_or-set_same places at (suc (length order)) 0 lt ∙ ap suc (sym e)
    forth i h (inr n) =
        let l : i < length order = omega (arith, length-append order (at ∷ [])) in
        let q : get_or (order ++ at ∷ []) i 0 ≡ get_or order i 0 = grind (arith, common_steps) in
        let p : get_or places (get_or order i 0) 0 ≡ suc i = o.forth i l in
        ap (λ v. get_or (set places at (suc (length order))) v 0) q
        ∙ get_or-set_other places at (get_or order i 0) (suc (length order)) 0 (λ e. let b : get_or places (get_or order i 0) 0 ≡ get_or places at 0 = ap (λ v. get_or places v 0) e in omega (arith, b, p, z))
        ∙ p

    back : (v i : ℕ) → get_or (set places at (suc (length order))) v 0 ≡ suc i → (v ≡ at) ⊎ (v ≡ at → ⊥) → (i < length (order ++ at ∷ [])) × (get_or (order ++ at ∷ []) i 0 ≡ v)
    back v i h (inl e) =
        let s : get_or (set places at (suc (length order))) v 0 ≡ suc (length order) = ap (λ x. get_or (set places at (suc (length order))) x 0) e ∙ get_or-set_same places at (suc (length order)) 0 lt in
        let k : i ≡ length order = omega (arith, s, h) in
        let q : get_or (order ++ at ∷ []) i 0 ≡ at = grind (arith, common_steps) in
        (omega (arith, length-append order (at ∷ []), k), q ∙ sym e)
    back v i h (inr n) =
        let s : get_or (set places at (suc (length order))) v 0 ≡ get_or places v 0 = get_or-set_other places at v (suc (length order)) 0 n in
        let b = o.back v i (sym s ∙ h) in
        let q : get_or (order ++ at ∷ []) i 0 ≡ get_or order i 0 = grind (arith, common_steps, b.0) in
        (omega (arith, length-append order (at ∷ []), b.0), q ∙ b.1)

-- as many as there are numbers, at most
pub order_fits : (places order : List ℕ) → IsOrder places order → length order ≤ length places
order_fits places order o = omega (arith, o.number, count_by-le-length is_met places)

-- a step up
pub walk_step : (above was places order : List ℕ) (s start at : ℕ) → IsWalk above was places order s start at → get_or places at 0 ≡ 0 → get_or above at 0 < length above
    → IsWalk above was (set places at (suc (length order))) (order ++ at ∷ []) s start (get_or above at 0)
walk_step above was places order s start at w z up = record {
  ordered = order_step places order at w.ordered lt z;
  root = other 0 (λ e. let b : get_or places 0 0 ≡ get_or places at 0 = ap (λ v. get_or places v 0) e in omega (arith, b, z, w.root)) ∙ w.root;
  begun = w.begun;
  grown = omega (arith, w.grown, longer);
  seen = seen w.seen;
  room = length-set places at (suc (length order)) ∙ w.room;
  inside = up;
  kept = λ v h. kept v h (which v at);
  fresh = λ v h. fresh v h (which v at);
  closed = λ v i h k. closed v i h k (which v at);
  next = λ v i h a b. next v i h a b (which v at);
  last = λ v i h a b. last v i h a b (which v at);
}
  where
    lt : at < length places
    lt = omega (arith, w.room, w.inside)

    sl : s ≤ length order
    sl = w.grown

    new : List ℕ
    new = set places at (suc (length order))

    longer : length (order ++ at ∷ []) ≡ suc (length order)
    longer = length-append order (at ∷ []) ∙ omega arith

    same : (v : ℕ) → v ≡ at → get_or new v 0 ≡ suc (length order)
    same v e = ap (λ x. get_or new x 0) e ∙ get_or-set_same places at (suc (length order)) 0 lt

    other : (v : ℕ) → (v ≡ at → ⊥) → get_or new v 0 ≡ get_or places v 0
    other v n = get_or-set_other places at v (suc (length order)) 0 n

    met : (v i : ℕ) → get_or places v 0 ≡ i → 0 < i → get_or new v 0 ≡ i
    met v i h p = other v (λ e. let b : get_or places v 0 ≡ get_or places at 0 = ap (λ x. get_or places x 0) e in omega (arith, b, z, h, p)) ∙ h

    seen : (at ≡ start) ⊎ (0 < get_or places start 0) → (get_or above at 0 ≡ start) ⊎ (0 < get_or new start 0)
    seen (inl e) = let q : get_or new start 0 ≡ suc (length order) = same start (sym e) in inr (omega (arith, q))
    seen (inr h) = let q : get_or new start 0 ≡ get_or places start 0 = met start (get_or places start 0) refl h in inr (omega (arith, q, h))

    kept : (v : ℕ) → get_or new v 0 ≤ s → (v ≡ at) ⊎ (v ≡ at → ⊥) → get_or was v 0 ≡ get_or new v 0
    kept v h (inl e) = absurd (omega (arith, same v e, h, sl))
    kept v h (inr n) = let o : get_or new v 0 ≡ get_or places v 0 = other v n in w.kept v (omega (arith, o, h)) ∙ sym o

    fresh : (v : ℕ) → s < get_or new v 0 → (v ≡ at) ⊎ (v ≡ at → ⊥) → get_or was v 0 ≡ 0
    fresh v h (inl e) = let q : get_or places v 0 ≡ 0 = ap (λ x. get_or places x 0) e ∙ z in w.kept v (omega (arith, q)) ∙ q
    fresh v h (inr n) = let o : get_or new v 0 ≡ get_or places v 0 = other v n in w.fresh v (omega (arith, o, h))

    closed : (v i : ℕ) → get_or new v 0 ≡ suc i → i < s → (v ≡ at) ⊎ (v ≡ at → ⊥) → (0 < get_or new (get_or above v 0) 0) × (get_or new (get_or above v 0) 0 ≤ s)
    closed v i h k (inl e) = absurd (omega (arith, same v e, h, k, sl))
    closed v i h k (inr n) =
        let c = w.closed v i (sym (other v n) ∙ h) k in
        let m : get_or new (get_or above v 0) 0 ≡ get_or places (get_or above v 0) 0 = met (get_or above v 0) (get_or places (get_or above v 0) 0) refl c.0 in
        (omega (arith, m, c.0), omega (arith, m, c.1))

    next : (v i : ℕ) → get_or new v 0 ≡ suc i → s ≤ i → suc i < length (order ++ at ∷ []) → (v ≡ at) ⊎ (v ≡ at → ⊥) → get_or new (get_or above v 0) 0 ≡ suc (suc i)
    next v i h a b (inl e) = absurd (omega (arith, same v e, h, b, longer))
    next v i h a b (inr n) = here (which (suc i) (length order))
      where
        p : get_or places v 0 ≡ suc i
        p = sym (other v n) ∙ h

        here : (suc i ≡ length order) ⊎ (suc i ≡ length order → ⊥) → get_or new (get_or above v 0) 0 ≡ suc (suc i)
        here (inl e) = same (get_or above v 0) (w.last v i p a e) ∙ ap suc (sym e)
        here (inr m) = met (get_or above v 0) (suc (suc i)) (w.next v i p a (omega (arith, longer, b, m))) (omega arith)

    last : (v i : ℕ) → get_or new v 0 ≡ suc i → s ≤ i → suc i ≡ length (order ++ at ∷ []) → (v ≡ at) ⊎ (v ≡ at → ⊥) → get_or above v 0 ≡ get_or above at 0
    last v i h a b (inl e) = ap (λ x. get_or above x 0) e
    last v i h a b (inr n) = let c = w.ordered.back v i (sym (other v n) ∙ h) in absurd (omega (arith, c.0, b, longer))

-- a walk begins where nothing new was met
pub walk_begins : (above places order : List ℕ) (marks : List Bool) (at : ℕ) → IsKnown above places order marks → at < length above → IsWalk above places places order (length order) at at
walk_begins above places order marks at k inside = record {
  ordered = k.ordered;
  root = k.root;
  begun = let b = k.ordered.back 0 0 k.root in b.0;
  grown = omega arith;
  seen = inl refl;
  room = k.room;
  inside = inside;
  kept = λ v h. refl;
  fresh = λ v h. absurd (past v (get_or places v 0) refl h);
  closed = λ v i h l. (k.closed v i h, within (get_or above v 0) (get_or places (get_or above v 0) 0) refl);
  next = λ v i h a b. let c = k.ordered.back v i h in absurd (omega (arith, c.0, a));
  last = λ v i h a b. let c = k.ordered.back v i h in absurd (omega (arith, c.0, a));
}
  where
    within : (v p : ℕ) → get_or places v 0 ≡ p → p ≤ length order
    within v zero h = omega arith
    within v (suc i) h = let c = k.ordered.back v i h in omega (arith, c.0)

    past : (v p : ℕ) → get_or places v 0 ≡ p → length order < get_or places v 0 → ⊥
    past v p h l = omega (arith, within v p h, h, l)

-- what is known when a walk has come to a number that was met, at place e
pub walk_ends : (above was before places order : List ℕ) (old new : List Bool) (e start at : ℕ)
    → IsKnown above was before old → IsWalk above was places order (length before) start at → get_or places at 0 ≡ suc e → Marks places (length before) e old new
    → length new ≡ length old → IsKnown above places order new
walk_ends above was before places order old new e start at k w p m len = record {
  ordered = w.ordered;
  room = w.room;
  marked = len ∙ k.marked;
  root = w.root;
  closed = closed;
  right = right;
  unmarked = λ v h. m.rest v (λ a. omega (arith, h)) ∙ k.unmarked v (w.kept v (omega (arith, h)) ∙ h);
}
  where
    -- where the way goes on from a place
    onward : (v i : ℕ) → get_or places v 0 ≡ suc i → length before ≤ i → (get_or places (get_or above v 0) 0 ≡ suc (suc i)) ⊎ (get_or above v 0 ≡ at)
    onward v i h a = here (which (suc i) (length order))
      where
        here : (suc i ≡ length order) ⊎ (suc i ≡ length order → ⊥) → (get_or places (get_or above v 0) 0 ≡ suc (suc i)) ⊎ (get_or above v 0 ≡ at)
        here (inl q) = inr (w.last v i h a q)
        here (inr n) = let b = w.ordered.back v i h in inl (w.next v i h a (omega (arith, b.0, n)))

    closed : (v i : ℕ) → get_or places v 0 ≡ suc i → 0 < get_or places (get_or above v 0) 0
    closed v i h = here (nat_lt i (length before)) refl
      where
        here : (t : Bool) → nat_lt i (length before) ≡ t → 0 < get_or places (get_or above v 0) 0
        here true t = let c = w.closed v i h (grind (arith, nat_tests)) in c.0
        here false t = there (onward v i h (grind (arith, nat_tests)))
          where
            there : (get_or places (get_or above v 0) 0 ≡ suc (suc i)) ⊎ (get_or above v 0 ≡ at) → 0 < get_or places (get_or above v 0) 0
            there (inl q) = omega (arith, q)
            there (inr q) = let r : get_or places (get_or above v 0) 0 ≡ suc e = ap (λ x. get_or places x 0) q ∙ p in omega (arith, r)

    only : (i v : ℕ) → get_or places v 0 ≡ suc i → (j : ℕ) → get_or places j 0 ≡ suc i → j ≡ v
    only i v h j g = let a = w.ordered.back v i h in let b = w.ordered.back j i g in sym b.1 ∙ a.1

    -- a number of the walk that is no part of a ring
    apart : (v i : ℕ) → get_or places v 0 ≡ suc i → length before ≤ i → (length before ≤ e → i < e) → comes_back above v ≡ false
    apart v i h a out = never above v P off up (length above) (get_or above v 0) (from v i h a (omega arith))
      where
        P : ℕ → Type 0
        P j = (0 < get_or places j 0) × ((get_or places j 0 ≤ length before) ⊎ (suc i < get_or places j 0))

        off : P v → ⊥
        off (q, inl r) = omega (arith, h, a, r)
        off (q, inr r) = omega (arith, h, r)

        stopped : (j : ℕ) → j ≡ at → P j
        stopped j q = here (nat_lt e (length before)) refl
          where
            r : get_or places j 0 ≡ suc e
            r = ap (λ x. get_or places x 0) q ∙ p

            here : (t : Bool) → nat_lt e (length before) ≡ t → P j
            here true t = let l : e < length before = grind (arith, nat_tests) in (omega (arith, r), inl (omega (arith, r, l)))
            here false t = let l : length before ≤ e = grind (arith, nat_tests) in (omega (arith, r), inr (omega (arith, r, out l)))

        from : (j q : ℕ) → get_or places j 0 ≡ suc q → length before ≤ q → i ≤ q → P (get_or above j 0)
        from j q g b c = there (onward j q g b)
          where
            there : (get_or places (get_or above j 0) 0 ≡ suc (suc q)) ⊎ (get_or above j 0 ≡ at) → P (get_or above j 0)
            there (inl r) = (omega (arith, r), inr (omega (arith, r, c)))
            there (inr r) = stopped (get_or above j 0) r

        up : (j : ℕ) → P j → P (get_or above j 0)
        up j x = here (get_or places j 0) refl x
          where
            here : (q : ℕ) → get_or places j 0 ≡ q → P j → P (get_or above j 0)
            here zero g (y, z) = absurd (omega (arith, y, g))
            here (suc q) g (y, inl r) = let c = w.closed j q g (omega (arith, r, g)) in (c.0, inl c.1)
            here (suc q) g (y, inr r) = from j q g (omega (arith, r, g, a)) (omega (arith, r, g))

    ringed : (v i : ℕ) → get_or places v 0 ≡ suc i → length before ≤ e → e ≤ i → comes_back above v ≡ true
    ringed v i h a b =
        let c = w.ordered.back v i h in
        let start : get_or places 0 0 ≤ e = omega (arith, w.root, w.begun, a) in
        returns above places v e i (length order) start (only i v h)
        (λ j q g x y. w.next j q g (omega (arith, a, x)) y) at p b c.0
        (λ j q g x y. w.last j q g (omega (arith, a, x)) y) h (length above) (omega (arith, w.room, order_fits places order w.ordered))

    right : (v i : ℕ) → get_or places v 0 ≡ suc i → get_or new v false ≡ comes_back above v
    right v i h = here (nat_lt i (length before)) (nat_lt i e) (nat_lt e (length before)) refl refl refl
      where
        here : (t r o : Bool) → nat_lt i (length before) ≡ t → nat_lt i e ≡ r → nat_lt e (length before) ≡ o → get_or new v false ≡ comes_back above v
        here true r o t q z =
            let l : i < length before = grind (arith, nat_tests) in
            m.rest v (λ x. omega (arith, h, l, x)) ∙ k.right v i (w.kept v (omega (arith, h, l)) ∙ h)
        here false true o t q z =
            let a : length before ≤ i = grind (arith, nat_tests) in
            let b : i < e = grind (arith, nat_tests) in
            m.rest v (λ x. omega (arith, h, b)) ∙ k.unmarked v (w.fresh v (omega (arith, h, a))) ∙ sym (apart v i h a (λ x. b))
        here false false true t q z =
            let a : length before ≤ i = grind (arith, nat_tests) in
            let b : e < length before = grind (arith, nat_tests) in
            m.rest v (λ x. absurd (omega (arith, x, b))) ∙ k.unmarked v (w.fresh v (omega (arith, h, a))) ∙ sym (apart v i h a (λ x. absurd (omega (arith, x, b))))
        here false false false t q z =
            let a : length before ≤ e = grind (arith, nat_tests) in
            let b : e ≤ i = grind (arith, nat_tests) in
            m.ring v i h a b ∙ sym (ringed v i h a b)

-- a step up, in a list that is named
pub walk_goes : (above was places order longer : List ℕ) (s start at number : ℕ) → IsWalk above was places order s start at → get_or places at 0 ≡ 0 → get_or above at 0 < length above
    → longer ≡ order ++ at ∷ [] → number ≡ length longer → IsWalk above was (set places at number) longer s start (get_or above at 0)
walk_goes above was places order longer s start at number w z up e n =
    let m : number ≡ suc (length order) = n ∙ ap length e ∙ length-append order (at ∷ []) ∙ omega arith in
    subst (λ (xs : List ℕ). IsWalk above was (set places at number) xs s start (get_or above at 0)) (sym e)
    (subst (λ (k : ℕ). IsWalk above was (set places at k) (order ++ at ∷ []) s start (get_or above at 0)) (sym m) (walk_step above was places order s start at w z up))

pub walk_shorter : (above was places order : List ℕ) (s start at : ℕ) → IsWalk above was places order s start at → length order ≤ length above
walk_shorter above was places order s start at w = omega (arith, w.room, order_fits places order w.ordered)

pub longer_by_one : (order longer : List ℕ) (at n : ℕ) → longer ≡ order ++ at ∷ [] → length longer ≤ n → n - length longer < n - length order
longer_by_one order longer at n e le =
    let m : length longer ≡ suc (length order) = ap length e ∙ length-append order (at ∷ []) ∙ omega arith in
    omega (arith, m, le)

-- what was met stands within the numbers
pub within : (places order : List ℕ) (v : ℕ) → IsOrder places order → v < length order → get_or order v 0 < length places
within places order v o lt = here (nat_lt (get_or order v 0) (length places)) refl
  where
    p : get_or places (get_or order v 0) 0 ≡ suc v
    p = o.forth v lt

    here : (t : Bool) → nat_lt (get_or order v 0) (length places) ≡ t → get_or order v 0 < length places
    here true t = grind (arith, nat_tests)
    here false t =
        let l : length places ≤ get_or order v 0 = grind (arith, nat_tests) in
        let q : get_or places (get_or order v 0) 0 ≡ 0 = get_or_past places (get_or order v 0) 0 l in
        absurd (omega (arith, p, q))

pub met_at : (places : List ℕ) (v : ℕ) → 0 < get_or places v 0 → get_or places v 0 ≡ suc (get_or places v 0 - 1)
met_at places v h = omega (arith, h)

-- the marks of a ring
pub ring_marked : (places order : List ℕ) (s e : ℕ) (old new : List Bool) → IsOrder places order → s ≤ e
    → ((i : ℕ) → e ≤ i → i < length order → get_or new (get_or order i 0) false ≡ true)
    → ((v : ℕ) → ((i : ℕ) → e ≤ i → i < length order → get_or order i 0 ≡ v → ⊥) → get_or new v false ≡ get_or old v false)
    → Marks places s e old new
ring_marked places order s e old new o le ring rest = record {
  ring = λ v i h a b. let c = o.back v i h in ap (λ x. get_or new x false) (sym c.1) ∙ ring i b c.0;
  rest = λ v h. rest v (λ i a b q. let p : get_or places v 0 ≡ suc i = ap (λ x. get_or places x 0) (sym q) ∙ o.forth i b in omega (arith, h le, p, a));
}

pub none_marked : (places : List ℕ) (s e : ℕ) (marks : List Bool) → e < s → Marks places s e marks marks
none_marked places s e marks lt = record {
  ring = λ v i h a b. absurd (omega (arith, a, lt));
  rest = λ v h. refl;
}

-- what was met stays met
pub stays_met : (above was places order : List ℕ) (s start at v : ℕ) → IsWalk above was places order s start at → 0 < get_or was v 0 → 0 < get_or places v 0
stays_met above was places order s start at v w h = here (nat_lt s (get_or places v 0)) refl
  where
    here : (t : Bool) → nat_lt s (get_or places v 0) ≡ t → 0 < get_or places v 0
    here true t = let l : s < get_or places v 0 = grind (arith, nat_tests) in omega (arith, l)
    here false t = let l : get_or places v 0 ≤ s = grind (arith, nat_tests) in omega (arith, w.kept v l, h)

pub start_met : (above was places order : List ℕ) (s start at : ℕ) → IsWalk above was places order s start at → 0 < get_or places at 0 → 0 < get_or places start 0
start_met above was places order s start at w h = here w.seen
  where
    here : (at ≡ start) ⊎ (0 < get_or places start 0) → 0 < get_or places start 0
    here (inl e) = subst (λ (x : ℕ). 0 < get_or places x 0) e h
    here (inr m) = m

pub first_of : (new old : List ℕ) (start : ℕ) → ((v : ℕ) → v < start → 0 < get_or old v 0) → ((v : ℕ) → 0 < get_or old v 0 → 0 < get_or new v 0) → 0 < get_or new start 0
    → (v : ℕ) → v < start + 1 → 0 < get_or new v 0
first_of new old start met grown now v h = here (which v start)
  where
    here : (v ≡ start) ⊎ (v ≡ start → ⊥) → 0 < get_or new v 0
    here (inl e) = subst (λ (x : ℕ). 0 < get_or new x 0) (sym e) now
    here (inr n) = grown v (met v (omega (arith, h, n)))

abbrev alone : List ℕ
alone = 0 ∷ []

none : (xs : List ℕ) → ((v : ℕ) → get_or xs v 0 ≡ 0) → count_by is_met xs ≡ 0
none [] h = refl
none (x ∷ xs) h =
    let a : count_by is_met (x ∷ xs) ≡ counted x + count_by is_met xs = sum_by-cons counted x xs in
    let b : counted x ≡ 0 = ap counted (h 0) in
    let c : count_by is_met xs ≡ 0 = none xs (λ v. h (suc v)) in
    omega (arith, a, b, c)

-- 0 alone is known
pub nothing_known : (above places order : List ℕ) (marks : List Bool) → 0 < length above → get_or above 0 0 ≡ 0 → length places ≡ length above → length marks ≡ length above
    → ((v : ℕ) → get_or places v 0 ≡ 0) → ((v : ℕ) → get_or marks v false ≡ false) → order ≡ 0 ∷ []
    → IsKnown above (set places 0 1) order marks
nothing_known above places order marks some root room marked unmet unmarked e =
    subst (λ (xs : List ℕ). IsKnown above (set places 0 1) xs marks) (sym e) (record {
      ordered = record {
        number = one_more places 0 0 (omega (arith, some, room)) (unmet 0) ∙ ap suc (none places unmet);
        forth = forth;
        back = λ v i h. back v i h (which v 0);
      };
      room = length-set places 0 1 ∙ room;
      marked = marked;
      root = placed;
      closed = λ v i h. closed v i h (which v 0);
      right = λ v i h. right v i h (which v 0);
      unmarked = λ v h. unmarked v;
    })
  where
    placed : get_or (set places 0 1) 0 0 ≡ 1
    placed = get_or-set_same places 0 1 0 (omega (arith, some, room))

    forth : (i : ℕ) → i < length alone → get_or (set places 0 1) (get_or alone i 0) 0 ≡ suc i
    forth zero lt = placed
    forth (suc i) lt = absurd (omega (arith, lt))

    back : (v i : ℕ) → get_or (set places 0 1) v 0 ≡ suc i → (v ≡ 0) ⊎ (v ≡ 0 → ⊥) → (i < length alone) × (get_or alone i 0 ≡ v)
    back v i h (inl q) =
        let s : get_or (set places 0 1) v 0 ≡ 1 = ap (λ x. get_or (set places 0 1) x 0) q ∙ placed in
        let z : i ≡ 0 = omega (arith, s, h) in
        (omega (arith, z), ap (λ k. get_or alone k 0) z ∙ sym q)
    back v i h (inr n) = let s : get_or (set places 0 1) v 0 ≡ get_or places v 0 = get_or-set_other places 0 v 1 0 n in absurd (omega (arith, s, h, unmet v))

    closed : (v i : ℕ) → get_or (set places 0 1) v 0 ≡ suc i → (v ≡ 0) ⊎ (v ≡ 0 → ⊥) → 0 < get_or (set places 0 1) (get_or above v 0) 0
    closed v i h (inl q) =
        let u : get_or above v 0 ≡ 0 = ap (λ x. get_or above x 0) q ∙ root in
        let s : get_or (set places 0 1) (get_or above v 0) 0 ≡ 1 = ap (λ x. get_or (set places 0 1) x 0) u ∙ placed in
        omega (arith, s)
    closed v i h (inr n) = let s : get_or (set places 0 1) v 0 ≡ get_or places v 0 = get_or-set_other places 0 v 1 0 n in absurd (omega (arith, s, h, unmet v))

    still : (n : ℕ) → comes_to above 0 n 0 ≡ false
    still zero = refl
    still (suc n) = refl

    right : (v i : ℕ) → get_or (set places 0 1) v 0 ≡ suc i → (v ≡ 0) ⊎ (v ≡ 0 → ⊥) → get_or marks v false ≡ comes_back above v
    right v i h (inl q) = unmarked v ∙ sym (ap (comes_back above) q ∙ ap (comes_to above 0 (length above)) root ∙ still (length above))
    right v i h (inr n) = let s : get_or (set places 0 1) v 0 ≡ get_or places v 0 = get_or-set_other places 0 v 1 0 n in absurd (omega (arith, s, h, unmet v))

pub place_fits : (places order : List ℕ) (v : ℕ) → IsOrder places order → 0 < get_or places v 0 → get_or places v 0 - 1 ≤ length order
place_fits places order v o h = let b = o.back v (get_or places v 0 - 1) (met_at places v h) in omega (arith, b.0)

pub ring_inside : (above was before places order : List ℕ) (marks : List Bool) (s start at : ℕ) → IsKnown above was before marks → IsWalk above was places order s start at
    → (i : ℕ) → i < length order → get_or order i 0 < length marks
ring_inside above was before places order marks s start at k w i lt = omega (arith, k.marked, w.room, within places order i w.ordered lt)

-- what is known when a walk has closed a ring
pub ring_known : (above was before places order list : List ℕ) (old new : List Bool) (start at : ℕ)
    → IsKnown above was before old → IsWalk above was places order (length before) start at → 0 < get_or places at 0 → length before < get_or places at 0 → list ≡ order
    → ((i : ℕ) → get_or places at 0 - 1 ≤ i → i < length list → get_or new (get_or list i 0) false ≡ true)
    → ((v : ℕ) → ((i : ℕ) → get_or places at 0 - 1 ≤ i → i < length list → get_or list i 0 ≡ v → ⊥) → get_or new v false ≡ get_or old v false)
    → length new ≡ length old → IsKnown above places order new
ring_known above was before places order list old new start at k w met lt e ring rest len =
    walk_ends above was before places order old new (get_or places at 0 - 1) start at k w (met_at places at met)
    (ring_marked places order (length before) (get_or places at 0 - 1) old new w.ordered (omega (arith, lt))
    (subst (λ (xs : List ℕ). (i : ℕ) → get_or places at 0 - 1 ≤ i → i < length xs → get_or new (get_or xs i 0) false ≡ true) e ring)
    (subst (λ (xs : List ℕ). (v : ℕ) → ((i : ℕ) → get_or places at 0 - 1 ≤ i → i < length xs → get_or xs i 0 ≡ v → ⊥) → get_or new v false ≡ get_or old v false) e rest))
    len

-- what is known when a walk has come to what was known before
pub none_known : (above was before places order : List ℕ) (marks : List Bool) (start at : ℕ)
    → IsKnown above was before marks → IsWalk above was places order (length before) start at → 0 < get_or places at 0 → get_or places at 0 ≤ length before
    → IsKnown above places order marks
none_known above was before places order marks start at k w met le =
    walk_ends above was before places order marks marks (get_or places at 0 - 1) start at k w (met_at places at met)
    (none_marked places (length before) (get_or places at 0 - 1) marks (omega (arith, met, le))) refl

pub all_right : (above places order : List ℕ) (marks : List Bool) (v : ℕ) → IsKnown above places order marks → 0 < get_or places v 0 → get_or marks v false ≡ comes_back above v
all_right above places order marks v k h = k.right v (get_or places v 0 - 1) (met_at places v h)
