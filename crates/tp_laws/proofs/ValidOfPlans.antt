-- The plan of a sound and complete word and one of its schedules is possible.
use Rattle.std.proofs.Common.{◌≡◌, refl, sym, ap, subst, ◌∙◌, ℕ, zero, suc, ◌+◌, ◌-◌, ◌<◌, ◌≤◌, ◌==◌, ◌⊎◌, inl, inr, Bool, true, false, not, ◌&&◌, ◌||◌, cond, List, [], ◌∷◌, map, length, Option, Some, None, arith, IsTrue, nat_lt, nat_le}
use Rattle.std.specs.List.{AllByRecursion as Each, list_all, range_with_len}
use Rattle.std.proofs.lemmas.Bool.{ltb-true, and_parts, and_from, or_left, or_right, false≢true, eqb-true, eqb-false, eq-eqb, lt-ltb, le-leb}
use Rattle.std.proofs.lemmas.List.{length-map}
use Rattle.tp_spec.specs.declared.plan.Item.TheVariants.{Start}
use Rattle.tp_spec.specs.declared.plan.Limits.{Limits}
use Rattle.tp_spec.specs.declared.plan.Mark.{Mark}
use Rattle.tp_spec.specs.declared.plan.Timed.{Timed}
use Rattle.tp_spec.specs.declared.problem.Problem.{Problem}
use Rattle.tp_spec.specs.Lists.{is_empty, some_and, IsIn}
use Rattle.tp_spec.specs.States.{holds}
use Rattle.tp_spec.specs.Courses.{Valid, Possible, happening, act_before, in_range}
use Rattle.tp_spec.specs.Words.{Act, Sound, Follow, progress, state_past, closes, runs_after, at_start, groups, acts_of, spell}
use Rattle.tp_spec.specs.Schedules.{Schedule, IsSchedule, IsInLength, finish, timed_act, last_tick, awaited, plan_of}
use Rattle.tp_laws.specs.Plans.{AreHappenings, GroupsAreHappenings, CompleteWordsAreSpelled, CompleteWordsArePossible, OfFormed, is_complete, none_run, items_from}
use Rattle.tp_laws.proofs.EarlyLists.{each-in, each-map, each-true, true-each, next-from, pair-from, Rising}
use Rattle.tp_laws.proofs.Orders.{not-true}
use Rattle.tp_laws.proofs.WordOfLists.{range-in}
use Rattle.tp_laws.proofs.ClockLaws.{ticks_rise}
use Rattle.tp_laws.proofs.ValidOfLists.{Pairs, each-of, each-mapped, pairs-with, pairs-mapped, pairs-test}
use Rattle.tp_laws.proofs.ValidOfStates.{Turn, Spells, of-actions, state-at, passes}
use Rattle.tp_laws.proofs.ValidOfActs.{Behind, Placed, kept}
use Rattle.tp_laws.proofs.ValidOfCommits.{Follows, has-commits, later-others}

-- the strict order of a plan's acts
abbrev earlier : Timed → Timed → Bool
earlier x y = nat_lt x.start y.start || (x.start == y.start && nat_lt x.action y.action)

earlier_cases : (x y : Timed) → earlier x y ≡ true → (x.start < y.start) ⊎ ((x.start ≡ y.start) × (x.action < y.action))
earlier_cases x y h = by_test (nat_lt x.start y.start) refl h where
  by_test : (b : Bool) → nat_lt x.start y.start ≡ b → (b || (x.start == y.start && nat_lt x.action y.action)) ≡ true → (x.start < y.start) ⊎ ((x.start ≡ y.start) × (x.action < y.action))
  by_test true e k = inl (ltb-true x.start y.start e)
  by_test false e k = inr (eqb-true x.start y.start (and_parts _ _ k).0, ltb-true x.action y.action (and_parts _ _ k).1)

differ : (a b : ℕ) → a < b → (a == b) ≡ false
differ a b lt = elim (a == b) as (λ c. (a == b) ≡ c → c ≡ false) [ true ↦ λ e. absurd (omega (arith, eqb-true a b e, lt)) | false ↦ λ e. refl ] refl

in_order : (x y : Timed) → earlier x y ≡ true → act_before x y ≡ true
in_order x y h = by_case (earlier_cases x y h) where
  by_case : (x.start < y.start) ⊎ ((x.start ≡ y.start) × (x.action < y.action)) → act_before x y ≡ true
  by_case (inl b) = ap (λ c. c || (x.start == y.start && (nat_lt x.action y.action || (x.action == y.action && nat_le x.length y.length)))) (lt-ltb x.start y.start b)
  by_case (inr e) = or_right (nat_lt x.start y.start) _ (and_from _ _ (eq-eqb x.start y.start e.0) (ap (λ c. c || (x.action == y.action && nat_le x.length y.length)) (lt-ltb x.action y.action e.1)))

once : (x y : Timed) → earlier x y ≡ true → not (x.action == y.action && x.start == y.start) ≡ true
once x y h = by_case (earlier_cases x y h) where
  never : (b : Bool) → not (b && false) ≡ true
  never true = refl
  never false = refl

  by_case : (x.start < y.start) ⊎ ((x.start ≡ y.start) × (x.action < y.action)) → not (x.action == y.action && x.start == y.start) ≡ true
  by_case (inl b) = ap (λ c. not (x.action == y.action && c)) (differ x.start y.start b) ∙ never (x.action == y.action)
  by_case (inr e) = ap (λ c. not (c && x.start == y.start)) (differ x.action y.action e.1)

-- a group of a word has an item
some-items : (g n : ℕ) (w : List Mark) → n ≤ g → g < n + groups w → is_empty (items_from n g w) ≡ false
some-items g n [] le lt = absurd (omega (arith, le, lt))
some-items g n (m ∷ w) le lt = by_fresh (λ k. some-items g k w) m.fresh lt where
  by_test : (k : ℕ) → (n ≤ k) → (k ≤ suc g) → ((k ≤ g) → is_empty (items_from k g w) ≡ false) → (b : Bool) → (k == suc g) ≡ b → is_empty (cond b (m.item ∷ items_from k g w) (items_from k g w)) ≡ false
  by_test k from upto ih true e = refl
  by_test k from upto ih false e = ih (below (eqb-false k (suc g) e)) where
    below : (k ≡ suc g → ⊥) → k ≤ g
    below other = omega (arith, upto, other)

  by_fresh : ((k : ℕ) → k ≤ g → g < k + groups w → is_empty (items_from k g w) ≡ false) → (b : Bool) → g < n + (cond b 1 0 + groups w) → is_empty (cond (cond b (n + 1) n == suc g) (m.item ∷ items_from (cond b (n + 1) n) g w) (items_from (cond b (n + 1) n) g w)) ≡ false
  by_fresh ih true lt = by_test (n + 1) (omega arith) (omega (arith, le)) (λ q. ih (n + 1) q (omega (arith, lt))) (n + 1 == suc g) refl
  by_fresh ih false lt = by_test n (omega arith) (omega (arith, le)) (λ q. ih n q (omega (arith, lt))) (n == suc g) refl

finish-at : (x : Schedule) (a : Act) (h : ℕ) → a.closes ≡ Some h → finish x a ≡ x.tick h
finish-at x a h e = ap (λ o. finish x (record { action = a.action; opens = a.opens; closes = o })) e

earlier-from : (x y : Timed) → (x.start < y.start) ⊎ ((x.start ≡ y.start) × (x.action < y.action)) → earlier x y ≡ true
earlier-from x y (inl b) = or_left _ _ (lt-ltb x.start y.start b)
earlier-from x y (inr e) = or_right (nat_lt x.start y.start) _ (and_from _ _ (eq-eqb x.start y.start e.0) (lt-ltb x.action y.action e.1))

rising-of : (xs : List Timed) → Pairs (λ x y. earlier x y ≡ true) xs → Rising earlier xs
rising-of [] r = tt
rising-of (x ∷ xs) r = (r.0, rising-of xs r.1)

turn-test : (x y : Timed) → Turn x y → (not (x.action == y.action) || nat_le (x.start + x.length) y.start) ≡ true
turn-test x y t = by_test (x.action == y.action) refl where
  by_test : (b : Bool) → (x.action == y.action) ≡ b → (not b || nat_le (x.start + x.length) y.start) ≡ true
  by_test true e = le-leb (x.start + x.length) y.start (t (eqb-true x.action y.action e))
  by_test false e = refl

-- the parts of what a complete word is asked
record Whole (p : Problem) (commits : List Timed) (w : List Mark) : Type 0 where
  shut : closes p (progress p w) ≡ true
  ended : none_run p (progress p w) ≡ true
  goals : list_all (holds (state_past p (progress p w))) p.goal ≡ true
  none : awaited (acts_of p w) commits ≡ []

whole-of : (p : Problem) (commits : List Timed) (w : List Mark) → IsTrue (is_complete p commits w) → Whole p commits w
whole-of p commits w h = record {
  shut = (and_parts _ _ (and_parts _ _ (and_parts _ _ (and_parts _ _ h).0).0).0).0;
  ended = (and_parts _ _ (and_parts _ _ (and_parts _ _ (and_parts _ _ h).0).0).0).1;
  goals = (and_parts _ _ (and_parts _ _ (and_parts _ _ h).0).0).1;
  none = nothing (awaited (acts_of p w) commits) (and_parts _ _ h).1;
}
  where
    nothing : (cs : List Timed) → is_empty cs ≡ true → cs ≡ []
    nothing [] e = refl
    nothing (c ∷ cs) e = absurd (false≢true e)

module _ (p : Problem) (l : Limits) (now : ℕ) (commits : List Timed) (w : List Mark) (x : Schedule) (sound : Sound p w) (whole : Whole p commits w) (is : IsSchedule p l now commits w x) where
  tick-order : (i j : ℕ) → i ≤ j → j < groups w → x.tick i ≤ x.tick j
  tick-order i j le b = ticks_rise (groups w) x.tick is.rises i j le (omega (arith, b))

  tick-rises : (i j : ℕ) → i < j → j < groups w → x.tick i < x.tick j
  tick-rises i j lt b =
      let one : x.tick i < x.tick (suc i) = is.rises i (omega (arith, lt, b)) in
      let rest : x.tick (suc i) ≤ x.tick j = tick-order (suc i) j (omega (arith, lt)) b in
      omega (arith, one, rest)

  -- an act of the word that has ended
  record Fits (a : Act) : Type 0 where
    placed : a.opens < groups w
    over : (h : ℕ) × (a.closes ≡ Some h) × (h < groups w)
    spans : IsInLength p l x a

  act-fits : (a : Act) → IsIn a (acts_of p w) → Fits a
  act-fits a i =
      let k : Placed p (groups w) (progress p w) a = each-in (Placed p (groups w) (progress p w)) (acts_of p w) a (kept p w sound).each i in
      record { placed = before k.opened; over = by_closes k a.closes refl; spans = is.lengths a i }
    where
      before : (suc a.opens < groups w) ⊎ ((suc a.opens ≡ groups w) × IsIn (Start a.action) (progress p w).group) → a.opens < groups w
      before (inl b) = omega (arith, b)
      before (inr e) = omega (arith, e.0)

      known : a.action < length p.actions
      known = of-actions p a.action (finish x a - x.tick a.opens) (is.lengths a i).allowed

      place : IsIn a.action (range_with_len 0 (length p.actions))
      place = range-in a.action 0 (length p.actions) (omega arith) (omega (arith, known))

      still : runs_after p (progress p w) a.action ≡ false
      still = not-true (runs_after p (progress p w) a.action) (each-in (λ b. not (runs_after p (progress p w) b) ≡ true) (range_with_len 0 (length p.actions)) a.action (each-true (λ b. not (runs_after p (progress p w) b)) (range_with_len 0 (length p.actions)) whole.ended) place)

      by_closes : Placed p (groups w) (progress p w) a → (o : Option ℕ) → a.closes ≡ o → (h : ℕ) × (a.closes ≡ Some h) × (h < groups w)
      by_closes k None e = absurd (false≢true (sym still ∙ k.runs e))
      by_closes k (Some h) e = (h, e, k.shut h e)

  fits : Each Fits (acts_of p w)
  fits = each-of Fits (acts_of p w) act-fits

  abbrev acts : List Timed
  acts = map (timed_act x) (acts_of p w)

  abbrev end_tick : ℕ
  end_tick = last_tick x (groups w)

  -- two acts of the plan
  in-turn : (a b : Act) → Fits a → Fits b → Behind a b → Turn (timed_act x a) (timed_act x b)
  in-turn a b f g r e =
      let o : (h : ℕ) × (a.closes ≡ Some h) × (h ≤ b.opens) = r.over e in
      let done : finish x a ≡ x.tick o.0 = finish-at x a o.0 o.1 in
      let rest : x.tick o.0 ≤ x.tick b.opens = tick-order o.0 b.opens o.2 g.placed in
      omega (arith, f.spans.forward, done, rest)

  turns : Pairs Turn acts
  turns = pairs-mapped Turn (timed_act x) (acts_of p w) (pairs-with Behind (λ a b. Turn (timed_act x a) (timed_act x b)) Fits (acts_of p w) in-turn fits (kept p w sound).pairs)

  in-order : (a b : Act) → Fits a → Fits b → Behind a b → earlier (timed_act x a) (timed_act x b) ≡ true
  in-order a b f g r = earlier-from (timed_act x a) (timed_act x b) (by_group r.order) where
    by_group : (a.opens < b.opens) ⊎ ((a.opens ≡ b.opens) × (a.action < b.action)) → (x.tick a.opens < x.tick b.opens) ⊎ ((x.tick a.opens ≡ x.tick b.opens) × (a.action < b.action))
    by_group (inl lt) = inl (tick-rises a.opens b.opens lt g.placed)
    by_group (inr e) = inr (ap x.tick e.0, e.1)

  rising : Rising earlier acts
  rising = rising-of acts (pairs-mapped (λ y z. earlier y z ≡ true) (timed_act x) (acts_of p w) (pairs-with Behind (λ a b. earlier (timed_act x a) (timed_act x b) ≡ true) Fits (acts_of p w) in-order fits (kept p w sound).pairs))

  follows : Pairs (Follows x now (acts_of p w) commits) (acts_of p w)
  follows = pairs-with Behind (Follows x now (acts_of p w) commits) Fits (acts_of p w) (λ a b f g r e. by_group a b g e r.order) fits (kept p w sound).pairs where
    by_group : (a b : Act) → Fits b → a.action ≡ b.action → (a.opens < b.opens) ⊎ ((a.opens ≡ b.opens) × (a.action < b.action)) → x.tick a.opens < x.tick b.opens
    by_group a b g e (inl lt) = tick-rises a.opens b.opens lt g.placed
    by_group a b g e (inr q) = absurd (omega (arith, e, q.1))

  ranged : Each (λ y. in_range p y.action y.length ≡ true) acts
  ranged = each-mapped (λ y. in_range p y.action y.length ≡ true) (timed_act x) (acts_of p w) (each-map Fits (λ a. in_range p a.action (finish x a - x.tick a.opens) ≡ true) (acts_of p w) (λ a f. f.spans.allowed) fits)

  -- no group is later than the end
  up-to-end : (h n : ℕ) → groups w ≡ n → h < n → x.tick h ≤ last_tick x n
  up-to-end h zero e b = absurd (omega (arith, b))
  up-to-end h (suc g) e b = tick-order h g (omega (arith, b)) (omega (arith, e))

  ends-by : (a : Act) → Fits a → nat_le (x.tick a.opens + (finish x a - x.tick a.opens)) end_tick ≡ true
  ends-by a f =
      let done : finish x a ≡ x.tick f.over.0 = finish-at x a f.over.0 f.over.1 in
      let last : x.tick f.over.0 ≤ end_tick = up-to-end f.over.0 (groups w) refl f.over.2 in
      le-leb (x.tick a.opens + (finish x a - x.tick a.opens)) end_tick (omega (arith, f.spans.forward, done, last))

  in-horizon : (n : ℕ) → groups w ≡ n → last_tick x n ≤ l.horizon
  in-horizon zero e = omega arith
  in-horizon (suc g) e = is.within g (omega (arith, e))

  module _ (stand : AreHappenings p w x) (spelt : spell p (plan_of p w x) ≡ w) where
    closing-at : (n : ℕ) → groups w ≡ n → (last_tick x n == 0 || not (is_empty (happening p acts (last_tick x n)))) ≡ true
    closing-at zero e = refl
    closing-at (suc g) e =
        let lt : g < groups w = omega (arith, e) in
        or_right (x.tick g == 0) _ (ap (λ is. not (is_empty is)) (stand.at_groups g lt) ∙ ap not (some-items g 0 w (omega arith) (omega (arith, lt))))

    spells : Spells p acts (suc end_tick)
    spells = record {
      follows = subst (Follow p (at_start p)) (sym spelt) sound.follows;
      shut = subst (λ v. closes p (progress p v) ≡ true) (sym spelt) whole.shut;
      turn = turns;
      ranged = ranged;
    }

    valid : Valid p l (plan_of p w x)
    valid = record {
      in_order = next-from earlier act_before acts rising in_order;
      few = omega (arith, is.few, length-map (acts_of p w) (timed_act x));
      once = pair-from earlier (λ y z. not (y.action == z.action && y.start == z.start)) (λ y. Unit {0}) acts rising (each-of (λ y. Unit {0}) acts (λ y i. tt)) (λ y z u e. once y z e);
      lengths = true-each (λ y. in_range p y.action y.length) acts ranged;
      in_turn = pairs-test Turn (λ y z. not (y.action == z.action) || nat_le (y.start + y.length) z.start) acts turn-test turns;
      closing = closing-at (groups w) refl;
      within = in-horizon (groups w) refl;
      all_ended = true-each (λ y. nat_le (y.start + y.length) end_tick) acts (each-mapped (λ y. nat_le (y.start + y.length) end_tick ≡ true) (timed_act x) (acts_of p w) (each-map Fits (λ a. nat_le (x.tick a.opens + (finish x a - x.tick a.opens)) end_tick ≡ true) (acts_of p w) ends-by fits));
      course = λ t b. passes p acts (suc end_tick) spells t (omega (arith, b));
      goal = subst (λ o. some_and o (λ s. list_all (holds s) p.goal) ≡ true) (sym (state-at p acts (suc end_tick) spells (suc end_tick) (omega arith) ∙ ap (λ v. Some (state_past p (progress p v))) spelt)) whole.goals;
    }

    possible : Possible p l now commits (plan_of p w x)
    possible = record {
      valid = valid;
      committed = has-commits x now (acts_of p w) commits whole.none is.on_time;
      later = later-others x now (acts_of p w) commits whole.none is.on_time follows;
    }

pub words-possible : OfFormed GroupsAreHappenings → OfFormed CompleteWordsAreSpelled → OfFormed CompleteWordsArePossible
words-possible stand spelt p l formed now commits w x turn sound complete is =
    possible p l now commits w x sound (whole-of p commits w complete) is
    (stand p l formed now commits w x turn sound complete is)
    (spelt p l formed now commits w x turn sound complete is)
