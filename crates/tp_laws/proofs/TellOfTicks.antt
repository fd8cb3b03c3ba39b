-- In the plan of a complete word and a schedule of it the groups are the happenings.
use Rattle.std.proofs.Common.{◌≡◌, refl, sym, ap, subst, ◌∙◌, ℕ, zero, suc, ◌+◌, ◌-◌, ◌<◌, ◌≤◌, ◌==◌, ◌⊎◌, inl, inr, Bool, true, false, not, ◌&&◌, cond, List, [], ◌∷◌, ◌++◌, length, Option, Some, None, arith, IsTrue, nat_lt, nat_le, append-nil}
use Rattle.std.specs.Prelude.{slice_get, IfSome}
use Rattle.std.specs.List.{list_any, list_all, range_with_len}
use Rattle.std.proofs.lemmas.Bool.{and_parts, and_right, false≢true, cases_lt, eqb-true, eqb-false, eq-eqb, ne_eqb, not-true, cases_order}
use Rattle.std.proofs.lemmas.Bool.Decides.{nat_tests}
use Rattle.std.proofs.lemmas.Option.{slice_get_within}
use Rattle.tp_spec.specs.declared.plan.Item.{Item}
use Rattle.tp_spec.specs.declared.plan.Item.TheVariants.{TimedAt, End, Start}
use Rattle.tp_spec.specs.declared.plan.Limits.{Limits}
use Rattle.tp_spec.specs.declared.plan.Mark.{Mark}
use Rattle.tp_spec.specs.declared.plan.Timed.{Timed}
use Rattle.tp_spec.specs.declared.problem.Problem.{Problem}
use Rattle.tp_spec.specs.declared.problem.TimedItem.{TimedItem}
use Rattle.tp_spec.specs.Lists.{is_empty, each_next, some_and, IsIn}
use Rattle.tp_spec.specs.States.{holds}
use Rattle.tp_spec.specs.Items.{all_items, item_before, is_durative}
use Rattle.tp_spec.specs.Courses.{stands, happening}
use Rattle.tp_spec.specs.Words.{Act, Sound, Follow, at_start, runs_after, closes, may_join, past_group, state_past, progress, groups, acts_of, timed_of, marked, spelled, spell}
use Rattle.tp_spec.specs.Schedules.{Schedule, IsSchedule, awaited, finish, timed_act, last_tick, plan_of}
use Rattle.tp_spec.specs.WellFormed.{IsWellFormed, is_timed}
use Rattle.tp_spec.proofs.Ticks.{le_suc}
use Rattle.tp_laws.specs.Clocks.{HasActsInGroups}
use Rattle.tp_laws.specs.Plans.{AreHappenings, begins_timed, none_run, is_whole, is_complete, items_in}
use Rattle.tp_laws.proofs.EarlyLists.{each-in, each-true, filter-none}
use Rattle.tp_laws.proofs.ClockActs.{sound-acts}
use Rattle.tp_laws.proofs.ClockCandidates.{past_end}
use Rattle.tp_laws.proofs.ClockCommits.{in_get}
use Rattle.tp_laws.proofs.WordOfLists.{range-in}
use Rattle.tp_laws.proofs.TellOfLists.{is_item, any-map, any-same, any-none, each-of, filter-is, items-strict, items-rise, in-any, any-in, later-tick}
use Rattle.tp_laws.proofs.TellOfItems.{has_in, open_count, still_runs}
use Rattle.tp_laws.proofs.TellOfWords.{Tells, grouped, tells-sound}

module _ (tick : ℕ → ℕ) (n : ℕ) (rises : (g : ℕ) → suc g < n → tick g < tick (suc g)) where
  -- groups rise strictly
  ticks-rise : (g h : ℕ) → g < h → h < n → tick g < tick h
  ticks-rise g zero b c = absurd (omega (arith, b))
  ticks-rise g (suc h) b c = elim (le_suc (suc g) h b) [
    | inl d ↦ omega (arith, ticks-rise g h d (omega (arith, c)), rises h c)
    | inr e ↦ let same : h ≡ g = omega (arith, e) in subst (λ (k : ℕ). tick k < tick (suc h)) same (rises h c)
  ]

  tick-one : (g h : ℕ) → g < n → h < n → tick g ≡ tick h → g ≡ h
  tick-one g h b c e = elim (cases_order g h) [
    | inl f ↦ f
    | inr o ↦ elim o [
      | inl lt ↦ absurd (omega (arith, ticks-rise g h lt c, e))
      | inr gt ↦ absurd (omega (arith, ticks-rise h g gt b, e))
    ]
  ]

  tick-same : (g h : ℕ) → g < n → h < n → (tick h == tick g) ≡ (h == g)
  tick-same g h b c = by_test (h == g) refl where
    by_test : (t : Bool) → (h == g) ≡ t → (tick h == tick g) ≡ t
    by_test true e = eq-eqb (tick h) (tick g) (ap tick (eqb-true h g e))
    by_test false e = ne_eqb (tick h) (tick g) (λ s. eqb-false h g e (tick-one h g c b s))

  tick-up : (g h : ℕ) → g ≤ h → h < n → tick g ≤ tick h
  tick-up g h le c = elim (cases_order g h) [
    | inl f ↦ omega (arith, ap tick f)
    | inr o ↦ elim o [
      | inl lt ↦ omega (arith, ticks-rise g h lt c)
      | inr gt ↦ absurd (omega (arith, le, gt))
    ]
  ]

-- where none of an action's acts runs, each has an end
closed_of : (a : ℕ) (xs : List Act) (z : Act) → open_count a xs ≡ 0 → IsIn z xs → z.action ≡ a → (h : ℕ) × (z.closes ≡ Some h)
closed_of a [] z e i f = absurd i
closed_of a (x ∷ xs) z e (inl g) f = by_end x.closes refl (omega (arith, e)) where
  by_end : (o : Option ℕ) → x.closes ≡ o → ◌≡◌ {A = ℕ} (cond (still_runs o && x.action == a) 1 0) 0 → (h : ℕ) × (z.closes ≡ Some h)
  by_end None c k =
      let one : ◌≡◌ {A = ℕ} 1 (cond (x.action == a) 1 0) = ap (λ b. cond b 1 0) (sym (eq-eqb x.action a (ap (λ (y : Act). y.action) g ∙ f))) in
      absurd (omega (arith, one, k))
  by_end (Some h) c k = (h, sym (ap (λ (y : Act). y.closes) g) ∙ c)
closed_of a (x ∷ xs) z e (inr i) f = closed_of a xs z (omega (arith, e)) i f

-- tests that agree on the groups find the same items
has-same : (p : Problem) (w : List Mark) → HasActsInGroups p w → (q r : ℕ → Bool) → ((h : ℕ) → h < groups w → q h ≡ r h) → (i : Item) → has_in p (acts_of p w) (timed_of w) q i ≡ has_in p (acts_of p w) (timed_of w) r i
has-same p w inside q r agree (TimedAt k) = by_place (slice_get (timed_of w) k) refl where
  by_place : (o : Option ℕ) → slice_get (timed_of w) k ≡ o → some_and o q ≡ some_and o r
  by_place None e = refl
  by_place (Some h) e = agree h (inside.timed h (in_get (timed_of w) k h e))
has-same p w inside q r agree (End a) = ap (λ b. is_durative p a && b) (any-same (λ z. z.action == a && some_and z.closes q) (λ z. z.action == a && some_and z.closes r) (acts_of p w) (each-of _ (acts_of p w) (λ z i. ap (λ b. z.action == a && b) (by_end z.closes (inside.closes z i))))) where
  by_end : (o : Option ℕ) → IfSome o (λ g. g < groups w) → some_and o q ≡ some_and o r
  by_end None h = refl
  by_end (Some g) h = agree g h
has-same p w inside q r agree (Start a) = any-same (λ z. z.action == a && q z.opens) (λ z. z.action == a && r z.opens) (acts_of p w) (each-of _ (acts_of p w) (λ z i. ap (λ b. z.action == a && b) (agree z.opens (inside.opens z i))))

has-none : (p : Problem) (xs : List Act) (ts : List ℕ) (i : Item) → has_in p xs ts (λ h. false) i ≡ false
has-none p xs ts (TimedAt k) = by_place (slice_get ts k) where
  by_place : (o : Option ℕ) → some_and o (λ h. false) ≡ false
  by_place None = refl
  by_place (Some h) = refl
has-none p xs ts (End a) = and_right (is_durative p a) _ (any-none _ xs (λ z. and_right (z.action == a) _ (by_end z.closes))) where
  by_end : (o : Option ℕ) → some_and o (λ h. false) ≡ false
  by_end None = refl
  by_end (Some h) = refl
has-none p xs ts (Start a) = any-none _ xs (λ z. and_right (z.action == a) false refl)

no_groups : (p : Problem) (w : List Mark) → Follow p (at_start p) w → groups w ≡ 0 → w ≡ []
no_groups p [] r e = refl
no_groups p (m ∷ w) r e = absurd (by_fresh m.fresh r.0 e) where
  by_fresh : (b : Bool) → (cond b (closes p (at_start p) && may_join p (past_group p (at_start p)) m.item) (false && may_join p (at_start p) m.item)) ≡ true → cond b 1 0 + groups w ≡ 0 → ⊥
  by_fresh true h e = omega (arith, e)
  by_fresh false h e = false≢true h

module _ (p : Problem) (l : Limits) (now : ℕ) (commits : List Timed) (w : List Mark) (x : Schedule) (formed : IsWellFormed p) (sound : Sound p w) (complete : IsTrue (is_complete p commits w)) (is : IsSchedule p l now commits w x) where
  inside : HasActsInGroups p w
  inside = sound-acts p w sound

  told : Tells p w (λ g. items_in g w) (progress p w) (groups w) (acts_of p w) (timed_of w)
  told = tells-sound p w sound

  whole : is_whole p w ≡ true
  whole = (and_parts (is_whole p w) (is_empty (awaited (acts_of p w) commits)) complete).0

  sorted : each_next (λ (s t : TimedItem). nat_lt s.tick t.tick) p.timed ≡ true
  sorted = (and_parts (nat_le (length p.timed) 256 && list_all (is_timed (length p.facts)) p.timed) (each_next (λ (s t : TimedItem). nat_lt s.tick t.tick) p.timed) formed.timing).1

  -- no action runs at the end
  none-runs : (a : ℕ) → a < length p.actions → runs_after p (progress p w) a ≡ false
  none-runs a b =
      let parts = and_parts (closes p (progress p w) && none_run p (progress p w)) (list_all (holds (state_past p (progress p w))) p.goal) (and_parts (closes p (progress p w) && none_run p (progress p w) && list_all (holds (state_past p (progress p w))) p.goal) (not (is_empty w && begins_timed p)) whole).0 in
      let none : none_run p (progress p w) ≡ true = (and_parts (closes p (progress p w)) (none_run p (progress p w)) parts.0).1 in
      let each = each-true (λ a. not (runs_after p (progress p w) a)) (range_with_len 0 (length p.actions)) none in
      not-true (runs_after p (progress p w) a) (each-in (λ a. not (runs_after p (progress p w) a) ≡ true) (range_with_len 0 (length p.actions)) a each (range-in a 0 (length p.actions) (omega arith) (omega (arith, b))))

  -- each act has an end
  all-closed : (z : Act) → IsIn z (acts_of p w) → (h : ℕ) × (z.closes ≡ Some h)
  all-closed z i =
      let known = inside.known z i in
      let none : open_count z.action (acts_of p w) ≡ 0 = told.running z.action ∙ ap (λ b. cond b 1 0) (none-runs z.action (slice_get_within p.actions z.action known.0 known.1)) in
      closed_of z.action (acts_of p w) z none i refl

  -- the next timed item is behind the end
  next-late : (t : ℕ) → t ≤ last_tick x (groups w) → IfSome (slice_get p.timed (length (timed_of w))) (λ y. t < y.tick)
  next-late t le = by_groups (groups w) refl le where
    raise : (o : Option TimedItem) (g : ℕ) → t ≤ x.tick g → IfSome o (λ y. x.tick g < y.tick) → IfSome o (λ y. t < y.tick)
    raise None g le h = tt
    raise (Some y) g le h = omega (arith, le, h)

    not_both : (b c : Bool) → b ≡ true → not (b && c) ≡ true → c ≡ false
    not_both true c e h = not-true c h
    not_both false c e h = absurd (false≢true e)

    first : t ≤ 0 → (o : Option TimedItem) → some_and o (λ i. i.tick == 0) ≡ false → IfSome o (λ y. t < y.tick)
    first le None e = tt
    first le (Some y) e = positive y.tick e where
      positive : (n : ℕ) → (n == 0) ≡ false → t < n
      positive n e = grind (arith, nat_tests)

    by_groups : (n : ℕ) → groups w ≡ n → t ≤ last_tick x n → IfSome (slice_get p.timed (length (timed_of w))) (λ y. t < y.tick)
    by_groups zero e le =
        let none : w ≡ [] = no_groups p w sound.follows e in
        let quiet : begins_timed p ≡ false = not_both (is_empty w) (begins_timed p) (ap is_empty none) (and_parts (closes p (progress p w) && none_run p (progress p w) && list_all (holds (state_past p (progress p w))) p.goal) (not (is_empty w && begins_timed p)) whole).1 in
        subst (λ (v : List Mark). IfSome (slice_get p.timed (length (timed_of v))) (λ y. t < y.tick)) (sym none) (first le (slice_get p.timed 0) quiet)
    by_groups (suc g) e le = raise (slice_get p.timed (length (timed_of w))) g le (is.before_next g (omega (arith, e)))

  -- what stands at a tick up to the end is what the groups at that tick have
  stands-has : (t : ℕ) → t ≤ last_tick x (groups w) → (i : Item) → stands p (plan_of p w x).acts t i ≡ has_in p (acts_of p w) (timed_of w) (λ h. x.tick h == t) i
  stands-has t le (TimedAt k) = by_place (slice_get (timed_of w) k) refl (slice_get p.timed k) refl (is.timed k) where
    by_place : (o : Option ℕ) → slice_get (timed_of w) k ≡ o → (q : Option TimedItem) → slice_get p.timed k ≡ q → IfSome o (λ g. IfSome q (λ i. x.tick g ≡ i.tick)) → some_and q (λ y. y.tick == t) ≡ some_and o (λ h. x.tick h == t)
    by_place None e None f h = refl
    by_place None e (Some y) f h = ne_eqb y.tick t (λ s. omega (arith, s, later-tick t p.timed sorted (length (timed_of w)) k (past_end (timed_of w) k e) y f (next-late t le)))
    by_place (Some g) e None f h = absurd (omega (arith, slice_get_within (timed_of w) k g e, told.bounded, past_end p.timed k f))
    by_place (Some g) e (Some y) f h = ap (λ (n : ℕ). n == t) (sym h)
  stands-has t le (End a) = ap (λ b. is_durative p a && b) (any-map (λ y. y.action == a && y.start + y.length == t) (timed_act x) (acts_of p w)
      ∙ any-same (λ z. z.action == a && x.tick z.opens + (finish x z - x.tick z.opens) == t) (λ z. z.action == a && some_and z.closes (λ h. x.tick h == t)) (acts_of p w) (each-of _ (acts_of p w) same))
    where
      same : (z : Act) → IsIn z (acts_of p w) → (z.action == a && x.tick z.opens + (finish x z - x.tick z.opens) == t) ≡ (z.action == a && some_and z.closes (λ h. x.tick h == t))
      same z i =
          let e : z.closes ≡ Some (all-closed z i).0 = (all-closed z i).1 in
          let ends : finish x z ≡ x.tick (all-closed z i).0 = ap (λ o. elim o as (λ _. ℕ) [ Some g ↦ x.tick g | None ↦ x.end z.action ]) e in
          let sum : x.tick z.opens + (finish x z - x.tick z.opens) ≡ x.tick (all-closed z i).0 = omega (arith, ends, (is.lengths z i).forward) in
          (λ k. z.action == a && sum k == t) ∙ (λ k. z.action == a && some_and (sym e k) (λ h. x.tick h == t))
  stands-has t le (Start a) = any-map (λ y. y.action == a && y.start == t) (timed_act x) (acts_of p w)

  last-up : (g : ℕ) → g < groups w → x.tick g ≤ last_tick x (groups w)
  last-up g b = by_groups (groups w) refl b where
    by_groups : (n : ℕ) → groups w ≡ n → g < n → x.tick g ≤ last_tick x n
    by_groups zero e b = absurd (omega (arith, b))
    by_groups (suc h) e b = tick-up x.tick (groups w) is.rises g h (omega (arith, b)) (omega (arith, e))

  at-groups : (g : ℕ) → g < groups w → happening p (plan_of p w x).acts (x.tick g) ≡ items_in g w
  at-groups g b = filter-is item_before (stands p (plan_of p w x).acts (x.tick g)) (all_items p) (items_in g w) items-strict (items-rise p) (told.rises g)
      (λ i m h. any-in i (items_in g w) (sym (same i) ∙ h)) (λ i m. same i ∙ in-any i (items_in g w) m) (λ i m. each-in (λ i. IsIn i (all_items p)) (items_in g w) i (told.known g) m)
    where
      same : (i : Item) → stands p (plan_of p w x).acts (x.tick g) i ≡ list_any (is_item i) (items_in g w)
      same i = stands-has (x.tick g) (last-up g b) i
          ∙ has-same p w inside (λ h. x.tick h == x.tick g) (λ h. h == g) (λ h c. tick-same x.tick (groups w) is.rises g h b c) i
          ∙ sym (told.tells g i)

  between : (t : ℕ) → t ≤ last_tick x (groups w) → ((g : ℕ) → g < groups w → ¬ (x.tick g ≡ t)) → happening p (plan_of p w x).acts t ≡ []
  between t le apart = filter-none (stands p (plan_of p w x).acts t) (all_items p) (λ i. stands-has t le i
      ∙ has-same p w inside (λ h. x.tick h == t) (λ h. false) (λ h c. ne_eqb (x.tick h) t (apart h c)) i
      ∙ has-none p (acts_of p w) (timed_of w) i)

  pub are-happenings : AreHappenings p w x
  are-happenings = record { at_groups = at-groups; between = between }

  -- the word of the happenings before a tick is that of the groups before it
  spell-up : (t m : ℕ) → ((g : ℕ) → g < m → x.tick g < t) → ((g : ℕ) → m ≤ g → g < groups w → t ≤ x.tick g) → m ≤ groups w → t ≤ suc (last_tick x (groups w)) → spelled p (plan_of p w x).acts t ≡ grouped (λ g. items_in g w) m
  spell-up zero zero low high few le = refl
  spell-up zero (suc m) low high few le = absurd (omega (arith, low m (omega arith)))
  spell-up (suc t) zero low high few le =
      let before : spelled p (plan_of p w x).acts t ≡ [] = spell-up t zero (λ g b. absurd (omega (arith, b))) (λ g le b. omega (arith, high g le b)) few (omega (arith, le)) in
      let none : happening p (plan_of p w x).acts t ≡ [] = between t (omega (arith, le)) (λ g b e. omega (arith, high g (omega arith) b, e)) in
      λ k. before k ++ marked (none k)
  spell-up (suc t) (suc m) low high few le = by_last (λ j a b c. spell-up t j a b c (omega (arith, le))) (x.tick m == t) refl where
    rises : (g : ℕ) → g < m → x.tick g < x.tick m
    rises g b = ticks-rise x.tick (groups w) is.rises g m b (omega (arith, few))

    by_last : ((j : ℕ) → ((g : ℕ) → g < j → x.tick g < t) → ((g : ℕ) → j ≤ g → g < groups w → t ≤ x.tick g) → j ≤ groups w → spelled p (plan_of p w x).acts t ≡ grouped (λ g. items_in g w) j)
        → (b : Bool) → (x.tick m == t) ≡ b → spelled p (plan_of p w x).acts (suc t) ≡ grouped (λ g. items_in g w) (suc m)
    by_last again true e =
        let here : x.tick m ≡ t = eqb-true (x.tick m) t e in
        let before : spelled p (plan_of p w x).acts t ≡ grouped (λ g. items_in g w) m
        = again m (λ g b. omega (arith, rises g b, here)) (λ g le b. omega (arith, here, tick-up x.tick (groups w) is.rises m g le b)) (omega (arith, few)) in
        let now : happening p (plan_of p w x).acts t ≡ items_in m w = ap (happening p (plan_of p w x).acts) (sym here) ∙ at-groups m (omega (arith, few)) in
        λ k. before k ++ marked (now k)
    by_last again false e =
        let other : x.tick m ≡ t → ⊥ = eqb-false (x.tick m) t e in
        let below : (g : ℕ) → g < suc m → x.tick g < t = λ g b. lower g (cases_order g m) b in
        let before : spelled p (plan_of p w x).acts t ≡ grouped (λ g. items_in g w) (suc m)
        = again (suc m) below (λ g le b. omega (arith, high g le b)) few in
        let none : happening p (plan_of p w x).acts t ≡ [] = between t (omega (arith, le)) (λ g b f. apart g b f (cases_lt g (suc m))) in
        (λ k. before k ++ marked (none k)) ∙ append-nil (grouped (λ g. items_in g w) (suc m))
      where
        under : x.tick m < t
        under = strictly (x.tick m) (low m (omega arith)) (eqb-false (x.tick m) t e) where
          strictly : (n : ℕ) → n < suc t → (n ≡ t → ⊥) → n < t
          strictly n b apart = by_order (cases_order n t) where
            by_order : (n ≡ t) ⊎ ((n < t) ⊎ (t < n)) → n < t
            by_order (inl e) = absurd (apart e)
            by_order (inr (inl c)) = c
            by_order (inr (inr c)) = omega (arith, b, c)

        lower : (g : ℕ) → (g ≡ m) ⊎ ((g < m) ⊎ (m < g)) → g < suc m → x.tick g < t
        lower g (inl f) b = omega (arith, ap x.tick f, under)
        lower g (inr (inl c)) b = omega (arith, rises g c, under)
        lower g (inr (inr c)) b = absurd (omega (arith, b, c))

        apart : (g : ℕ) → g < groups w → x.tick g ≡ t → (g < suc m) ⊎ (suc m ≤ g) → ⊥
        apart g b f (inl c) = omega (arith, lower g (cases_order g m) c, f)
        apart g b f (inr c) = omega (arith, high g c b, f)

  pub spelled-word : spell p (plan_of p w x) ≡ w
  spelled-word = spell-up (suc (last_tick x (groups w))) (groups w) (λ g b. omega (arith, last-up g b)) (λ g le b. absurd (omega (arith, le, b))) (omega arith) (omega arith) ∙ told.word
