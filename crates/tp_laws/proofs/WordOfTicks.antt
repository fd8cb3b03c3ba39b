-- Reading the word of a plan, happening by happening.
use Rattle.std.proofs.Common.{◌≡◌, refl, sym, ap, subst, ◌∙◌, ◌⊎◌, inl, inr, ℕ, zero, suc, ◌+◌, ◌<◌, ◌==◌, Bool, true, false, not, ◌&&◌, ◌||◌, List, [], ◌∷◌, ◌++◌, map, length, Some, IsSome, arith, nat_lt}
use Rattle.std.specs.List.{AllByRecursion as Each, list_any, list_all, range_with_len}
use Rattle.std.specs.Option.{option_and_then}
use Rattle.std.proofs.lemmas.Bool.{and_from, and_left, and_right, or_from, or_left, or_right, le-ltb, false≢true, eq-eqb, ltb-true, lt-ltb, le-leb, ne_eqb, not_from_false}
use Rattle.tp_spec.specs.declared.plan.Item.{Item}
use Rattle.tp_spec.specs.declared.plan.Item.TheVariants.{TimedAt, End, Start}
use Rattle.tp_spec.specs.declared.plan.Mark.{Mark}
use Rattle.tp_spec.specs.declared.plan.Timed.{Timed}
use Rattle.tp_spec.specs.declared.problem.Problem.{Problem}
use Rattle.tp_spec.specs.Lists.{IsIn, each_pair, some_and}
use Rattle.tp_spec.specs.States.{holds}
use Rattle.tp_spec.specs.Items.{own, after, invariants, is_durative, item_before, kind_index}
use Rattle.tp_spec.specs.Interference.{interfere}
use Rattle.tp_spec.specs.WellFormed.{IsWellFormed}
use Rattle.tp_spec.specs.Courses.{Passes, stands, happening, state_before, keeps_invariants, runs_at}
use Rattle.tp_spec.specs.Words.{Progress, Follow, in_turn, may_join, closes, keeps_running, past_group, state_past, runs_after, read_on, progress, at_start, is_start_of, is_end_of, marked, joining, spelled}
use Rattle.tp_laws.proofs.Readings.{read_on-append, before-joining, group-joining, state_before-spelled}
use Rattle.tp_laws.proofs.EarlyLists.{Rising, each-in, in-right, in-left}
use Rattle.tp_laws.proofs.EarlyReading.{follow-append}
use Rattle.tp_laws.proofs.Members.{in-append}
use Rattle.tp_laws.proofs.WordOfLists.{all-in, in-all, rising-around}
use Rattle.tp_laws.proofs.WordOfHappenings.{in-happening, happening-in, happening-rises, HasItem, end-any, ends-happen, starts-happen, times, times-happen}
use Rattle.tp_laws.proofs.WordOfMarks.{running-joining, timed-joining, timed-marked, runs-marked, shut-marked, fits-after, may-join, pair-around, follow-marked}
use Rattle.tp_laws.proofs.WordOfActs.{AreApart, runs_to, RunsTo, to-runs, end-runs, start-ends, runs-step}
use Rattle.tp_laws.proofs.WordOfTimes.{timed_before, timed_before-step, timed_before-start, timed-place}

-- What the reading of the happenings before a tick gives: what runs, how many timed items came, and
-- that the last group closes. Of the state speaks `state_before-spelled`.
pub record ReadsTo (p : Problem) (acts : List Timed) (t : ℕ) (c : Progress) : Type 0 where
  pub runs : (a : ℕ) → runs_after p c a ≡ runs_to acts t a
  pub timed : c.timed ≡ timed_before p t
  pub shut : closes p c ≡ true

-- an item before an end is no end of the same action
no-end : (a : ℕ) (j : Item) → item_before j (End a) ≡ true → is_end_of a j ≡ false
no-end a (TimedAt k) h = refl
no-end a (End b) h = ne_eqb a b (λ e. omega (arith, e, ltb-true b a h))
no-end a (Start b) h = refl

no-ends : (a : ℕ) (u : List Item) → Each (λ j. item_before j (End a) ≡ true) u → list_any (is_end_of a) u ≡ false
no-ends a [] h = refl
no-ends a (j ∷ u) h = (λ k. no-end a j h.0 k || no-ends a u h.1 k)

module _ (p : Problem) (acts : List Timed) (formed : IsWellFormed p) (fine : AreApart p acts) where
  -- before a timed item of a tick none stands
  no-times : (t k : ℕ) (u : List Item) → stands p acts t (TimedAt k) ≡ true → Each (λ j. item_before j (TimedAt k) ≡ true) u → ((j : Item) → IsIn j u → stands p acts t j ≡ true) → times u ≡ 0
  no-times t k [] s below stand = refl
  no-times t k (TimedAt l ∷ u) s below stand =
      let same : timed_before p t ≡ l = timed-place p l t formed (stand (TimedAt l) (inl refl)) in
      absurd (omega (arith, same, timed-place p k t formed s, ltb-true l k below.0))
  no-times t k (End a ∷ u) s below stand = absurd (false≢true below.0)
  no-times t k (Start a ∷ u) s below stand = absurd (false≢true below.0)

  -- an item of a happening, those before it, those behind it, and the reading of those before it
  record IsAmong (t : ℕ) (d : Progress) (u v : List Item) (i : Item) : Type 0 where
    whole : u ++ i ∷ v ≡ happening p acts t
    below : Each (λ j. item_before j i ≡ true) u
    above : Each (λ j. item_before i j ≡ true) v
    there : HasItem p i
    stand : stands p acts t i ≡ true
    group : d.group ≡ u
    running : (a : ℕ) → d.running a ≡ runs_to acts t a
    timed : d.timed ≡ timed_before p t + times u

  turn : (t : ℕ) (d : Progress) (u v : List Item) (i : Item) → IsAmong t d u v i → in_turn p d i ≡ true
  turn t d u v (TimedAt k) h =
      let none : times u ≡ 0 = no-times t k u h.stand h.below (λ j i. (in-happening p acts t j (subst (IsIn j) h.whole (in-left j u (TimedAt k ∷ v) i))).1) in
      and_from _ _ (eq-eqb k d.timed (omega (arith, none, h.timed, timed-place p k t formed h.stand))) (lt-ltb k (length p.timed) h.there)
  turn t d u v (End a) h = and_from _ _ (h.running a ∙ end-runs p acts fine t a h.stand) (not_from_false _ (ap (list_any (is_end_of a)) h.group ∙ no-ends a u h.below))
  turn t d u v (Start a) h = and_from _ _ (lt-ltb a (length p.actions) h.there) (by_run (runs_to acts t a) refl) where
    before : IsIn (End a) u ⊎ IsIn (End a) (Start a ∷ v) → list_any (is_end_of a) u ≡ true
    before (inl i) = end-any a u i
    before (inr (inl e)) = let kinds : kind_index (Start a) ≡ kind_index (End a) = ap kind_index e in absurd (omega (arith, kinds))
    before (inr (inr i)) = absurd (false≢true (each-in (λ j. item_before (Start a) j ≡ true) v (End a) h.above i))

    by_run : (b : Bool) → runs_to acts t a ≡ b → (not (d.running a) || list_any (is_end_of a) d.group) ≡ true
    by_run true e = or_right (not (d.running a)) (list_any (is_end_of a) d.group)
        (ap (list_any (is_end_of a)) h.group
        ∙ before (in-append (End a) u (Start a ∷ v) (subst (IsIn (End a)) (sym h.whole) (happening-in p acts t (End a) h.there (start-ends p acts fine t a h.stand e)))))
    by_run false e = or_left (not (d.running a)) (list_any (is_end_of a) d.group) (not_from_false _ (h.running a ∙ e))

  module _ (t : ℕ) (c : Progress) (reads : ReadsTo p acts t c) (passes : Passes p acts t) (is_state : state_before p acts t ≡ Some (state_past p c)) where
    -- each item of the happening may join those before it
    may : (u v : List Item) (i : Item) → u ++ i ∷ v ≡ happening p acts t → may_join p (read_on p (past_group p c) (map joining u)) i ≡ true
    may u v i whole =
        let b : Progress = past_group p c in
        let d : Progress = read_on p b (map joining u) in
        let around = rising-around item_before u i v (subst (Rising item_before) (sym whole) (happening-rises p acts t)) in
        let among : IsIn i (happening p acts t) = subst (IsIn i) whole (in-right i u (i ∷ v) (inl refl)) in
        let stand = in-happening p acts t i among in
        let met : list_all (own p (state_past p c)) (happening p acts t) ≡ true = subst (λ o. some_and o (λ s. list_all (own p s) (happening p acts t)) ≡ true) is_state passes.met in
        let apart : each_pair (λ i j. not (interfere p i j)) (u ++ i ∷ v) ≡ true = subst (λ is. each_pair (λ i j. not (interfere p i j)) is ≡ true) (sym whole) passes.apart in
        may-join p d i (state_past p c) u (before-joining p b u) (group-joining p b u)
        (turn t d u v i (record {
          whole = whole;
          below = around.0;
          above = around.1;
          there = stand.0;
          stand = stand.1;
          group = group-joining p b u;
          running = λ a. running-joining p b u a ∙ reads.runs a;
          timed = timed-joining p b u ∙ ap (λ n. n + times u) reads.timed;
        }))
        (all-in (own p (state_past p c)) (happening p acts t) i met among)
        (pair-around p u i v around.0 apart)

    pub follow-tick : Follow p c (marked (happening p acts t))
    follow-tick = follow-marked p c (happening p acts t) reads.shut may

    -- the reading with this happening
    abbrev pub onward : Progress
    onward = read_on p c (marked (happening p acts t))

    runs-on : (a : ℕ) → runs_after p onward a ≡ runs_to acts (suc t) a
    runs-on a =
        let starts : list_any (is_start_of a) (happening p acts t) ≡ stands p acts t (Start a) = starts-happen p acts t a fine.there in
        let ends : list_any (is_end_of a) (happening p acts t) ≡ stands p acts t (End a) = ends-happen p acts t a in
        runs-marked p c (happening p acts t) a
        ∙ (λ k. (starts k && is_durative p a) || (reads.runs a k && not (ends k)))
        ∙ runs-step p acts fine t a

    -- the invariants of what runs hold
    keeps : state_before p acts (suc t) ≡ Some (state_past p onward) → keeps_running p onward ≡ true
    keeps after_state = in-all (λ a. not (runs_after p onward a) || list_all (holds (state_past p onward)) (invariants p a)) (range_with_len 0 (length p.actions)) (λ a i. by_run a (runs_to acts (suc t) a) refl) where
      kept : keeps_invariants p acts t (state_past p onward) ≡ true
      kept = subst (λ o. some_and o (keeps_invariants p acts t) ≡ true) after_state passes.kept

      hold : (a : ℕ) → RunsTo acts (suc t) a → list_all (holds (state_past p onward)) (invariants p a) ≡ true
      hold a r =
          let x : Timed = r.act in
          let runs : runs_at t x ≡ true = and_from _ _ (le-leb x.start t (omega (arith, r.begun))) (lt-ltb t (x.start + x.length) (omega (arith, r.unended))) in
          let both : (not (runs_at t x) || list_all (holds (state_past p onward)) (invariants p x.action)) ≡ true = all-in (λ x. not (runs_at t x) || list_all (holds (state_past p onward)) (invariants p x.action)) acts x kept r.there in
          let met : list_all (holds (state_past p onward)) (invariants p x.action) ≡ true = subst (λ b. (not b || list_all (holds (state_past p onward)) (invariants p x.action)) ≡ true) runs both in
          subst (λ a. list_all (holds (state_past p onward)) (invariants p a) ≡ true) r.of met

      by_run : (a : ℕ) (b : Bool) → runs_to acts (suc t) a ≡ b → (not (runs_after p onward a) || list_all (holds (state_past p onward)) (invariants p a)) ≡ true
      by_run a true e = or_right (not (runs_after p onward a)) _ (hold a (to-runs acts (suc t) a e))
      by_run a false e = or_left (not (runs_after p onward a)) _ (not_from_false _ (runs-on a ∙ e))

    pub reads-tick : state_before p acts (suc t) ≡ Some (state_past p onward) → ReadsTo p acts (suc t) onward
    reads-tick after_state = record {
      runs = runs-on;
      timed = omega (arith, timed-marked p c (happening p acts t), reads.timed, timed_before-step p t, times-happen p acts t);
      shut = shut-marked p c (happening p acts t) reads.shut
          (fits-after p (state_past p c) (happening p acts t) (subst (λ o. IsSome (option_and_then (λ s. after p s (happening p acts t)) o)) is_state passes.exists))
          (keeps after_state);
    }

  none-runs : (a : ℕ) → runs_after p (at_start p) a ≡ runs_to acts 0 a
  none-runs a = sym (none acts) where
    none : (xs : List Timed) → runs_to xs 0 a ≡ false
    none [] = refl
    none (x ∷ xs) = or_from _ _ (and_right (x.action == a) _ (and_left (nat_lt x.start 0) _ (le-ltb x.start 0 (omega arith)))) (none xs)

  pub read-spelled : (n : ℕ) → ((k : ℕ) → k < n → Passes p acts k) → Follow p (at_start p) (spelled p acts n) × ReadsTo p acts n (progress p (spelled p acts n))
  read-spelled zero course = (tt, record { runs = none-runs; timed = sym (timed_before-start p); shut = refl })
  read-spelled (suc t) course =
      let w : List Mark = spelled p acts t in
      let c : Progress = progress p w in
      let ih = read-spelled t (λ k b. course k (omega (arith, b))) in
      let is_state : state_before p acts t ≡ Some (state_past p c) = state_before-spelled p acts t (λ k b. (course k (omega (arith, b))).exists) in
      let whole : progress p (spelled p acts (suc t)) ≡ read_on p c (marked (happening p acts t)) = read_on-append p (at_start p) w (marked (happening p acts t)) in
      let after_state : state_before p acts (suc t) ≡ Some (state_past p (read_on p c (marked (happening p acts t)))) = state_before-spelled p acts (suc t) (λ k b. (course k (omega (arith, b))).exists) ∙ ap (λ d. Some (state_past p d)) whole in (
        follow-append p (at_start p) w (marked (happening p acts t)) ih.0 (follow-tick t c ih.1 (course t (omega arith)) is_state),
        subst (ReadsTo p acts (suc t)) (sym whole) (reads-tick t c ih.1 (course t (omega arith)) is_state after_state),
      )
