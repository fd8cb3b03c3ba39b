-- A sound word's groups, and what its acts and timed items tell of them, mark by mark.
use Rattle.std.proofs.Common.{◌≡◌, refl, sym, ap, subst, ◌∙◌, ℕ, zero, suc, ◌+◌, ◌-◌, ◌<◌, ◌≤◌, ◌==◌, Bool, true, false, not, ◌&&◌, ◌||◌, cond, List, [], ◌∷◌, ◌++◌, length, arith, IsTrue, nat_lt, append_assoc, append-nil, length-append}
use Rattle.std.specs.List.{AllByRecursion as Each, list_any}
use Rattle.std.proofs.lemmas.Bool.{and_parts, and_right, or_right, false≢true, ltb-true, ltb-false, eqb-true, eq-eqb, ne_eqb, not-true}
use Rattle.std.proofs.lemmas.Bool.Decides.{nat_tests}
use Rattle.std.proofs.Math.Bool.{or-false}
use Rattle.std.proofs.lemmas.List.{map-append}
use Rattle.std.proofs.lemmas.List.Folds.{list_any-append}
use Rattle.std.proofs.lemmas.Option.{slice_get_past}
use Rattle.tp_spec.specs.declared.plan.Item.{Item}
use Rattle.tp_spec.specs.declared.plan.Item.TheVariants.{TimedAt, End, Start}
use Rattle.tp_spec.specs.declared.plan.Mark.{Mark}
use Rattle.tp_spec.specs.declared.problem.Problem.{Problem}
use Rattle.tp_spec.specs.Lists.{is_empty, IsIn, some_and}
use Rattle.tp_spec.specs.Items.{all_items, item_before, is_durative, is_durative_kind}
use Rattle.tp_spec.specs.Interference.{interfere}
use Rattle.tp_spec.specs.Words.{Act, Progress, Sound, Follow, may_follow, may_join, in_turn, is_start_of, is_end_of, runs_after, past_group, with_item, read_on, read_mark, progress, at_start, groups, acts_from, acts_of, with_act, timed_from, timed_of, timed_group, marked, joining}
use Rattle.tp_laws.specs.Plans.{items_from, items_in}
use Rattle.tp_laws.proofs.EarlyLists.{Rising, each-map, each-true, rising-push}
use Rattle.tp_laws.proofs.ClockActs.{each-append}
use Rattle.tp_laws.proofs.TellOfLists.{is_item, timed-known, end-known, start-known}
use Rattle.tp_laws.proofs.TellOfItems.{has_in, open_count, IsReady, has-more, runs-more}

-- the marks of the first n groups
abbrev pub grouped : (ℕ → List Item) → ℕ → List Mark
grouped items zero = []
grouped items (suc n) = grouped items n ++ marked (items n)

pub grouped-same : (f g : ℕ → List Item) (n : ℕ) → ((h : ℕ) → h < n → f h ≡ g h) → grouped f n ≡ grouped g n
grouped-same f g zero h = refl
grouped-same f g (suc n) h =
    let before : grouped f n ≡ grouped g n = grouped-same f g n (λ k b. h k (omega (arith, b))) in
    let last : f n ≡ g n = h n (omega arith) in
    λ i. before i ++ marked (last i)

marked-more : (is : List Item) (i : Item) → marked (is ++ i ∷ []) ≡ marked is ++ record { fresh = is_empty is; item = i } ∷ []
marked-more [] i = refl
marked-more (j ∷ is) i = ap (λ w. record { fresh = true; item = j } ∷ w) (map-append joining is (i ∷ []))

-- A word that was read, with the items of each group, how far it was read, the number of its groups, its acts, and
-- the groups of its timed items.
pub record Tells (p : Problem) (u : List Mark) (items : ℕ → List Item) (c : Progress) (n : ℕ) (xs : List Act) (ts : List ℕ) : Type 0 where
  pub word : grouped items n ≡ u
  pub current : (g : ℕ) → suc g ≡ n → items g ≡ c.group
  pub beyond : (g : ℕ) → n ≤ g → items g ≡ []
  pub rises : (g : ℕ) → Rising item_before (items g)
  pub known : (g : ℕ) → Each (λ i. IsIn i (all_items p)) (items g)
  pub opened : is_empty c.group ≡ false → 0 < n
  pub tells : (g : ℕ) (i : Item) → list_any (is_item i) (items g) ≡ has_in p xs ts (λ h. h == g) i
  pub running : (a : ℕ) → open_count a xs ≡ cond (runs_after p c a) 1 0
  pub lasts : (a : ℕ) → c.running a ≡ true → is_durative p a ≡ true
  pub counted : c.timed ≡ length ts
  pub bounded : length ts ≤ length p.timed

module _ (p : Problem) where
  tells-start : Tells p [] (λ g. []) (at_start p) 0 [] []
  tells-start = record {
    word = refl;
    current = λ g e. absurd (omega (arith, e));
    beyond = λ g le. refl;
    rises = λ g. tt;
    known = λ g. tt;
    opened = λ e. absurd (false≢true (sym e));
    tells = λ g i. none g i;
    running = λ a. refl;
    lasts = λ a e. absurd (false≢true e);
    counted = refl;
    bounded = omega arith;
  }
    where
      none : (g : ℕ) (i : Item) → false ≡ has_in p [] [] (λ h. h == g) i
      none g (TimedAt k) = ap (λ o. some_and o (λ h. h == g)) (sym (slice_get_past [] k (omega arith)))
      none g (End a) = sym (and_right (is_durative p a) false refl)
      none g (Start a) = refl

  and-same : (b : Bool) → b ≡ (b && true)
  and-same true = refl
  and-same false = refl

  -- what runs is durative
  long : (c : Progress) → ((a : ℕ) → c.running a ≡ true → is_durative p a ≡ true) → (a : ℕ) → runs_after p c a ≡ true → is_durative p a ≡ true
  long c lasts a h = by_tests (list_any (is_start_of a) c.group) (not (list_any (is_end_of a) c.group)) (c.running a) (is_durative p a) (lasts a) h where
    by_tests : (s e r d : Bool) → (r ≡ true → d ≡ true) → ((s && d) || (r && e)) ≡ true → d ≡ true
    by_tests s e true d lasts h = lasts refl
    by_tests true e false true lasts h = refl
    by_tests true e false false lasts h = h
    by_tests false e false d lasts h = absurd (false≢true h)

  -- the last group closed, an empty one opened
  tells-open : (u : List Mark) (items : ℕ → List Item) (c : Progress) (n : ℕ) (xs : List Act) (ts : List ℕ) → Tells p u items c n xs ts → Tells p u items (past_group p c) (suc n) xs ts
  tells-open u items c n xs ts t =
      let none : items n ≡ [] = t.beyond n (omega arith) in
      record {
        word = (λ i. t.word i ++ marked (none i)) ∙ append-nil u;
        current = λ g e. t.beyond g (omega (arith, e));
        beyond = λ g le. t.beyond g (omega (arith, le));
        rises = t.rises;
        known = t.known;
        opened = λ e. omega arith;
        tells = t.tells;
        running = λ a. t.running a ∙ ap (λ b. cond b 1 0) (and-same (runs_after p c a));
        lasts = long c t.lasts;
        counted = t.counted;
        bounded = t.bounded;
      }

  durative_known : (a : ℕ) → is_durative p a ≡ true → a < length p.actions
  durative_known a h = elim (nat_lt a (length p.actions)) as (λ b. nat_lt a (length p.actions) ≡ b → a < length p.actions) [
    | true ↦ λ e. ltb-true a (length p.actions) e
    | false ↦ λ e. absurd (false≢true (ap (λ o. some_and o (λ x. is_durative_kind x.kind)) (sym (slice_get_past p.actions a (ltb-false a (length p.actions) e))) ∙ h))
  ] refl

  module _ (items : ℕ → List Item) (c : Progress) (xs : List Act) (ts : List ℕ) where
    -- an item that may come is one of the problem's
    item_known : (i : Item) → ((a : ℕ) → c.running a ≡ true → is_durative p a ≡ true) → in_turn p c i ≡ true → IsIn i (all_items p)
    item_known (TimedAt k) lasts turn = timed-known p k (ltb-true k (length p.timed) (and_parts _ _ turn).1)
    item_known (End a) lasts turn = end-known p a (durative_known a (lasts a (and_parts _ _ turn).0))
    item_known (Start a) lasts turn = start-known p a (ltb-true a (length p.actions) (and_parts _ _ turn).0)

    ready_of : (u : List Mark) (n : ℕ) (i : Item) → Tells p u items c n xs ts → in_turn p c i ≡ true → IsReady p xs ts i
    ready_of u n (TimedAt k) t turn = eqb-true k c.timed (and_parts _ _ turn).0 ∙ t.counted
    ready_of u n (End a) t turn =
        let one : open_count a xs ≡ 1 = t.running a ∙ ap (λ b. cond b 1 0) (or_right _ _ turn) in
        (t.lasts a (and_parts _ _ turn).0, omega (arith, one))
    ready_of u n (Start a) t turn = tt

    counted_more : (g : ℕ) (i : Item) → c.timed ≡ length ts → (with_item c i).timed ≡ length (ts ++ timed_group g i)
    counted_more g (TimedAt k) e = omega (arith, e, length-append ts (g ∷ []))
    counted_more g (End a) e = e ∙ ap length (sym (append-nil ts))
    counted_more g (Start a) e = e ∙ ap length (sym (append-nil ts))

    bounded_more : (g : ℕ) (i : Item) → c.timed ≡ length ts → length ts ≤ length p.timed → in_turn p c i ≡ true → length (ts ++ timed_group g i) ≤ length p.timed
    bounded_more g (TimedAt k) e le turn = omega (arith, e, length-append ts (g ∷ []), eqb-true k c.timed (and_parts _ _ turn).0, ltb-true k (length p.timed) (and_parts _ _ turn).1)
    bounded_more g (End a) e le turn = subst (λ us. length us ≤ length p.timed) (sym (append-nil ts)) le
    bounded_more g (Start a) e le turn = subst (λ us. length us ≤ length p.timed) (sym (append-nil ts)) le

    -- one item more in group g
    abbrev more : ℕ → Item → ℕ → List Item
    more g i h = items h ++ cond (g == h) (i ∷ []) []

    any_more : (g : ℕ) (i j : Item) (h : ℕ) → list_any (is_item j) (more g i h) ≡ (list_any (is_item j) (items h) || (is_item j i && g == h))
    any_more g i j h = list_any-append (is_item j) (items h) (cond (g == h) (i ∷ []) []) ∙ ap (λ b. list_any (is_item j) (items h) || b) (by_test (g == h)) where
      by_test : (b : Bool) → list_any (is_item j) (cond b (i ∷ []) []) ≡ (is_item j i && b)
      by_test true = or-false (is_item j i) ∙ and-same (is_item j i)
      by_test false = sym (and_right (is_item j i) false refl)

    other : (g h : ℕ) (i : Item) → (g ≡ h → ⊥) → more g i h ≡ items h
    other g h i apart = ap (λ b. items h ++ cond b (i ∷ []) []) (ne_eqb g h apart) ∙ append-nil (items h)

    tells-item : (u : List Mark) (g : ℕ) (i : Item) → in_turn p c i ≡ true → Each (λ j. item_before j i ≡ true) c.group → Tells p u items c (suc g) xs ts
        → Tells p (u ++ record { fresh = is_empty c.group; item = i } ∷ []) (more g i) (with_item c i) (suc g) (with_act p g i xs) (ts ++ timed_group g i)
    tells-item u g i turn behind t =
        let ready : IsReady p xs ts i = ready_of u (suc g) i t turn in
        let last : items g ≡ c.group = t.current g refl in
        let front : grouped (more g i) g ≡ grouped items g = grouped-same (more g i) items g (λ h b. other g h i (λ e. omega (arith, e, b))) in
        let mark : Mark = record { fresh = is_empty c.group; item = i } in
        record {
          word = (λ k. front k ++ marked (last k ++ cond (eq-eqb g g refl k) (i ∷ []) []))
              ∙ ap (λ w. grouped items g ++ w) (marked-more c.group i)
              ∙ sym (append_assoc (grouped items g) (marked c.group) (mark ∷ []))
              ∙ ap (λ w. w ++ mark ∷ []) (ap (λ is. grouped items g ++ marked is) (sym last) ∙ t.word);
          current = λ h e. let same : (g == h) ≡ true = eq-eqb g h (omega (arith, e)) in λ k. t.current h e k ++ cond (same k) (i ∷ []) [];
          beyond = λ h le. other g h i (λ e. omega (arith, e, le)) ∙ t.beyond h le;
          rises = λ h. rises_at h (g == h) refl;
          known = λ h. each-append (λ j. IsIn j (all_items p)) (items h) (cond (g == h) (i ∷ []) []) (t.known h) (known_at (g == h));
          opened = λ e. omega arith;
          tells = λ h j. any_more g i j h ∙ ap (λ b. b || (is_item j i && g == h)) (t.tells h j) ∙ sym (has-more p xs ts g i ready (λ f. f == h) j);
          running = runs-more p c xs ts g i turn behind ready t.running;
          lasts = t.lasts;
          counted = counted_more g i t.counted;
          bounded = bounded_more g i t.counted t.bounded turn;
        }
      where
        rises_at : (h : ℕ) (b : Bool) → (g == h) ≡ b → Rising item_before (items h ++ cond b (i ∷ []) [])
        rises_at h true e = rising-push item_before (items h) i (t.rises h) (subst (Each (λ j. item_before j i ≡ true)) (sym (t.current h (omega (arith, eqb-true g h e)))) behind)
        rises_at h false e = subst (Rising item_before) (sym (append-nil (items h))) (t.rises h)

        known_at : (b : Bool) → Each (λ j. IsIn j (all_items p)) (cond b (i ∷ []) [])
        known_at true = (item_known i t.lasts turn, tt)
        known_at false = tt

  behind_of : (c : Progress) (i : Item) → may_join p c i ≡ true → Each (λ j. item_before j i ≡ true) c.group
  behind_of c i h = each-map (λ j. (item_before j i && not (interfere p j i)) ≡ true) (λ j. item_before j i ≡ true) c.group (λ j k. (and_parts _ _ k).0) (each-true (λ j. item_before j i && not (interfere p j i)) c.group (and_parts _ _ h).1)

  turn_of : (c : Progress) (i : Item) → may_join p c i ≡ true → in_turn p c i ≡ true
  turn_of c i h = (and_parts _ _ (and_parts _ _ h).0).0

  abbrev From : List Mark → Type 0
  From v = (u : List Mark) (items : ℕ → List Item) (c : Progress) (n : ℕ) (xs : List Act) (ts : List ℕ) → Follow p c v → Tells p u items c n xs ts
      → Tells p (u ++ v) (λ h. items h ++ items_from n h v) (read_on p c v) (n + groups v) (acts_from p n v xs) (ts ++ timed_from n v)

  -- an item in the last of k groups, and the marks behind it
  go : (v : List Mark) → From v → (u : List Mark) (items : ℕ → List Item) (d : Progress) (k : ℕ) (xs : List Act) (ts : List ℕ) (i : Item) → 0 < k → may_join p d i ≡ true → Follow p (with_item d i) v → Tells p u items d k xs ts
      → Tells p (u ++ record { fresh = is_empty d.group; item = i } ∷ v) (λ h. items h ++ cond (k == suc h) (i ∷ items_from k h v) (items_from k h v)) (read_on p (with_item d i) v) (k + groups v)
      (acts_from p k v (with_act p (k - 1) i xs)) (ts ++ (timed_group (k - 1) i ++ timed_from k v))
  go v again u items d k xs ts i pos joins rest t =
      let g : ℕ = k - 1 in
      let whole : suc g ≡ k = omega (arith, pos) in
      let mark : Mark = record { fresh = is_empty d.group; item = i } in
      let one = tells-item items d xs ts u g i (turn_of d i joins) (behind_of d i joins) (subst (λ (n : ℕ). Tells p u items d n xs ts) (sym whole) t) in
      let all = again (u ++ mark ∷ []) (λ h. items h ++ cond (g == h) (i ∷ []) []) (with_item d i) k (with_act p g i xs) (ts ++ timed_group g i) rest
      (subst (λ (n : ℕ). Tells p (u ++ mark ∷ []) (λ h. items h ++ cond (g == h) (i ∷ []) []) (with_item d i) n (with_act p g i xs) (ts ++ timed_group g i)) whole one) in
      subst (λ (w : List Mark). Tells p w (λ h. items h ++ cond (k == suc h) (i ∷ items_from k h v) (items_from k h v)) (read_on p (with_item d i) v) (k + groups v) (acts_from p k v (with_act p g i xs)) (ts ++ (timed_group g i ++ timed_from k v))) (append_assoc u (mark ∷ []) v)
      (subst (λ (f : ℕ → List Item). Tells p ((u ++ mark ∷ []) ++ v) f (read_on p (with_item d i) v) (k + groups v) (acts_from p k v (with_act p g i xs)) (ts ++ (timed_group g i ++ timed_from k v))) (λ j h. places h whole j)
      (subst (λ (us : List ℕ). Tells p ((u ++ mark ∷ []) ++ v) (λ h. (items h ++ cond (g == h) (i ∷ []) []) ++ items_from k h v) (read_on p (with_item d i) v) (k + groups v) (acts_from p k v (with_act p g i xs)) us) (append_assoc ts (timed_group g i) (timed_from k v))
      all))
    where
      places : (h : ℕ) → suc (k - 1) ≡ k → ((items h ++ cond (k - 1 == h) (i ∷ []) []) ++ items_from k h v) ≡ (items h ++ cond (k == suc h) (i ∷ items_from k h v) (items_from k h v))
      places h whole = append_assoc (items h) (cond (k - 1 == h) (i ∷ []) []) (items_from k h v) ∙ ap (λ is. items h ++ is) (by_test (k - 1 == h) ∙ ap (λ b. cond b (i ∷ items_from k h v) (items_from k h v)) (one_less k h pos)) where
        by_test : (b : Bool) → (cond b (i ∷ []) [] ++ items_from k h v) ≡ cond b (i ∷ items_from k h v) (items_from k h v)
        by_test true = refl
        by_test false = refl

        one_less : (k h : ℕ) → 0 < k → (k - 1 == h) ≡ (k == suc h)
        one_less k h pos = grind (arith, nat_tests)

  tells-from : (v : List Mark) → From v
  tells-from [] u items c n xs ts r t =
      let e : n ≡ n + 0 = omega arith in
      subst (λ (w : List Mark). Tells p w (λ h. items h ++ []) c (n + 0) xs (ts ++ [])) (sym (append-nil u))
      (subst (λ (f : ℕ → List Item). Tells p u f c (n + 0) xs (ts ++ [])) (λ j h. sym (append-nil (items h)) j)
      (subst (λ (us : List ℕ). Tells p u items c (n + 0) xs us) (sym (append-nil ts))
      (subst (λ (m : ℕ). Tells p u items c m xs ts) e t)))
  tells-from (m ∷ v) u items c n xs ts r t = by_fresh m.fresh m.item (tells-from v) r.0 r.1 where
    by_fresh : (b : Bool) (i : Item) → From v → IsTrue (may_follow p c (record { fresh = b; item = i })) → Follow p (read_mark p c (record { fresh = b; item = i })) v
        → Tells p (u ++ record { fresh = b; item = i } ∷ v) (λ h. items h ++ items_from n h (record { fresh = b; item = i } ∷ v)) (read_on p c (record { fresh = b; item = i } ∷ v)) (n + groups (record { fresh = b; item = i } ∷ v)) (acts_from p n (record { fresh = b; item = i } ∷ v) xs) (ts ++ timed_from n (record { fresh = b; item = i } ∷ v))
    by_fresh true i again may rest =
        let e : suc n ≡ n + 1 = omega arith in
        let f : n + 1 + groups v ≡ n + (1 + groups v) = omega arith in
        let start : Tells p u items (past_group p c) (n + 1) xs ts = subst (λ (k : ℕ). Tells p u items (past_group p c) k xs ts) e (tells-open u items c n xs ts t) in
        subst (λ (k : ℕ). Tells p (u ++ record { fresh = true; item = i } ∷ v) (λ h. items h ++ items_from n h (record { fresh = true; item = i } ∷ v)) (read_on p c (record { fresh = true; item = i } ∷ v)) k (acts_from p n (record { fresh = true; item = i } ∷ v) xs) (ts ++ timed_from n (record { fresh = true; item = i } ∷ v))) f
        (go v again u items (past_group p c) (n + 1) xs ts i (omega arith) (and_parts _ _ may).1 rest start)
    by_fresh false i again may rest =
        let some : is_empty c.group ≡ false = not-true (is_empty c.group) (and_parts _ _ may).0 in
        let f : n + groups v ≡ n + (0 + groups v) = omega arith in
        subst (λ (k : ℕ). Tells p (u ++ record { fresh = false; item = i } ∷ v) (λ h. items h ++ items_from n h (record { fresh = false; item = i } ∷ v)) (read_on p c (record { fresh = false; item = i } ∷ v)) k (acts_from p n (record { fresh = false; item = i } ∷ v) xs) (ts ++ timed_from n (record { fresh = false; item = i } ∷ v))) f
        (subst (λ (b : Bool). Tells p (u ++ record { fresh = b; item = i } ∷ v) (λ h. items h ++ items_from n h (record { fresh = false; item = i } ∷ v)) (read_on p c (record { fresh = false; item = i } ∷ v)) (n + groups v) (acts_from p n (record { fresh = false; item = i } ∷ v) xs) (ts ++ timed_from n (record { fresh = false; item = i } ∷ v))) some
        (go v again u items c n xs ts i (t.opened some) (and_parts _ _ may).1 rest t))

  pub tells-sound : (w : List Mark) → Sound p w → Tells p w (λ g. items_in g w) (progress p w) (groups w) (acts_of p w) (timed_of w)
  tells-sound w sound =
      let e : 0 + groups w ≡ groups w = omega arith in
      subst (λ (n : ℕ). Tells p w (λ g. items_in g w) (progress p w) n (acts_of p w) (timed_of w)) e
      (tells-from w [] (λ g. []) (at_start p) 0 [] [] sound.follows tells-start)
