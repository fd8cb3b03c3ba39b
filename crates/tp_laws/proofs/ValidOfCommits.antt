-- The plan of a word has each commitment that is not awaited.
use Rattle.std.proofs.Common.{◌≡◌, refl, sym, ap, subst, ◌∙◌, ℕ, ◌+◌, ◌-◌, ◌<◌, ◌≤◌, ◌==◌, Bool, true, false, not, ◌&&◌, ◌||◌, cond, List, [], ◌∷◌, map, length, Option, Some, None, arith, nat_lt, nat_le}
use Rattle.std.specs.Prelude.{IfSome, slice_get}
use Rattle.std.specs.List.{list_any, list_all}
use Rattle.std.proofs.lemmas.Bool.{and_from, or_left, or_right, false≢true, eqb-true, eq-eqb, lt-ltb, le-leb}
use Rattle.tp_spec.specs.declared.plan.Timed.{Timed}
use Rattle.tp_spec.specs.Lists.{IsIn}
use Rattle.tp_spec.specs.Courses.{same_act, has_act}
use Rattle.tp_spec.specs.Words.{Act}
use Rattle.tp_spec.specs.Schedules.{Schedule, IsOnTime, finish, timed_act, acts_by, commits_by, awaited, without_first}
use Rattle.tp_laws.proofs.EarlyLists.{true-each}
use Rattle.tp_laws.proofs.Members.{in-filter, map-in}
use Rattle.tp_laws.proofs.WordOfLists.{filter-in}
use Rattle.tp_laws.proofs.ClockCommits.{in_get}
use Rattle.tp_laws.proofs.ClockActs.{there}
use Rattle.tp_laws.proofs.ClockCandidates.{past_end}
use Rattle.tp_laws.proofs.ValidOfLists.{Pairs, each-of, each-mapped, pairs-filter, pairs-at, any-true, filter-passes, place-of}

-- one act of an action less
taken : (a b : ℕ) (xs : List Act) → list_any (λ x. x.action == b) xs ≡ true → cond (b == a) 1 0 + length (acts_by a (without_first b xs)) ≤ length (acts_by a xs)
taken a b [] h = absurd (false≢true h)
taken a b (x ∷ xs) h = by_tests (taken a b xs) (x.action == b) (x.action == a) refl refl h where
  same : x.action ≡ b → (b == a) ≡ (x.action == a)
  same e = ap (λ n. n == a) (sym e)

  by_tests : (list_any (λ y. y.action == b) xs ≡ true → cond (b == a) 1 0 + length (acts_by a (without_first b xs)) ≤ length (acts_by a xs))
      → (c d : Bool) → (x.action == b) ≡ c → (x.action == a) ≡ d → (c || list_any (λ y. y.action == b) xs) ≡ true
      → cond (b == a) 1 0 + length (acts_by a (cond c xs (x ∷ without_first b xs))) ≤ length (cond d (x ∷ acts_by a xs) (acts_by a xs))
  by_tests ih true d e f k = subst (λ r. cond r 1 0 + length (acts_by a xs) ≤ length (cond d (x ∷ acts_by a xs) (acts_by a xs))) (sym (same (eqb-true x.action b e) ∙ f)) (first d) where
    first : (d : Bool) → cond d 1 0 + length (acts_by a xs) ≤ length (cond d (x ∷ acts_by a xs) (acts_by a xs))
    first true = omega arith
    first false = omega arith
  by_tests ih false d e f k = subst (λ r. cond (b == a) 1 0 + length (cond r (x ∷ acts_by a (without_first b xs)) (acts_by a (without_first b xs))) ≤ length (cond d (x ∷ acts_by a xs) (acts_by a xs))) (sym f) (either d) where
    either : (d : Bool) → cond (b == a) 1 0 + length (cond d (x ∷ acts_by a (without_first b xs)) (acts_by a (without_first b xs))) ≤ length (cond d (x ∷ acts_by a xs) (acts_by a xs))
    either true = let less = ih k in omega (arith, less)
    either false = ih k

-- an action has no more commitments than acts where none is awaited
enough : (acts : List Act) (commits : List Timed) → awaited acts commits ≡ [] → (a : ℕ) → length (commits_by a commits) ≤ length (acts_by a acts)
enough acts [] e a = omega arith
enough acts (c ∷ rest) e a = by_test (λ f. enough (without_first c.action acts) rest f a) (list_any (λ x. x.action == c.action) acts) refl e where
  by_head : (d : Bool) → cond d 1 0 + length (acts_by a (without_first c.action acts)) ≤ length (acts_by a acts) → length (commits_by a rest) ≤ length (acts_by a (without_first c.action acts)) → length (cond d (c ∷ commits_by a rest) (commits_by a rest)) ≤ length (acts_by a acts)
  by_head true less ih = omega (arith, less, ih)
  by_head false less ih = omega (arith, less, ih)

  by_test : (awaited (without_first c.action acts) rest ≡ [] → length (commits_by a rest) ≤ length (acts_by a (without_first c.action acts))) → (b : Bool) → list_any (λ x. x.action == c.action) acts ≡ b → cond b (awaited (without_first c.action acts) rest) (c ∷ awaited acts rest) ≡ [] → length (cond (c.action == a) (c ∷ commits_by a rest) (commits_by a rest)) ≤ length (acts_by a acts)
  by_test ih true f g = by_head (c.action == a) (taken a c.action acts f) (ih g)
  by_test ih false f g = absurd cc

module _ (x : Schedule) (now : ℕ) (acts : List Act) (commits : List Timed) where
  -- the act of a commitment, the k-th of its action as the commitment is
  record Met (c : Timed) : Type 0 where
    place : ℕ
    act : Act
    is : slice_get (acts_by c.action acts) place ≡ Some act
    start : x.tick act.opens ≡ c.start
    finish : finish x act ≡ c.start + c.length
    early : place < length (commits_by c.action commits)

  abbrev pub AreOnTime : Type 0
  AreOnTime = (a k : ℕ) → IfSome (slice_get (acts_by a acts) k) (λ act. IsOnTime x now act (slice_get (commits_by a commits) k))

  met : awaited acts commits ≡ [] → AreOnTime → (c : Timed) → IsIn c commits → Met c
  met none on c i =
      let place : (k : ℕ) × (slice_get (commits_by c.action commits) k ≡ Some c) × (k < length (commits_by c.action commits)) = place-of (commits_by c.action commits) c (filter-in (λ d. d.action == c.action) commits c i (eq-eqb c.action c.action refl)) in
      let few : length (commits_by c.action commits) ≤ length (acts_by c.action acts) = enough acts commits none c.action in
      let act : (a : Act) × (slice_get (acts_by c.action acts) place.0 ≡ Some a) = there (acts_by c.action acts) place.0 (omega (arith, few, place.2)) in
      let time : IsOnTime x now act.0 (Some c) = subst (IsOnTime x now act.0) place.1 (subst (λ o. IfSome o (λ a. IsOnTime x now a (slice_get (commits_by c.action commits) place.0))) act.1 (on c.action place.0)) in
      record { place = place.0; act = act.0; is = act.1; start = time.0; finish = time.1; early = place.2 }

  met-in : (c : Timed) (m : Met c) → IsIn m.act acts × (m.act.action ≡ c.action)
  met-in c m =
      let i : IsIn m.act (acts_by c.action acts) = in_get (acts_by c.action acts) m.place m.act m.is in
      (in-filter (λ y. y.action == c.action) m.act acts i, eqb-true m.act.action c.action (filter-passes (λ y. y.action == c.action) acts m.act i))

  -- each commitment is an act of the plan
  pub has-commits : awaited acts commits ≡ [] → AreOnTime → list_all (has_act (map (timed_act x) acts)) commits ≡ true
  has-commits none on = true-each (has_act (map (timed_act x) acts)) commits (each-of (λ c. has_act (map (timed_act x) acts) c ≡ true) commits (λ c i. has c (met none on c i))) where
    has : (c : Timed) → Met c → has_act (map (timed_act x) acts) c ≡ true
    has c m =
        let among = met-in c m in
        let lasts : c.length ≡ finish x m.act - x.tick m.act.opens = omega (arith, m.start, m.finish) in
        any-true (same_act c) (map (timed_act x) acts) (timed_act x m.act) (map-in (timed_act x) m.act acts among.0)
        (and_from _ _ (and_from _ _ (eq-eqb c.action m.act.action (sym among.1)) (eq-eqb c.start (x.tick m.act.opens) (sym m.start))) (eq-eqb c.length (finish x m.act - x.tick m.act.opens) lasts))

  -- of two acts of one action the earlier opens at an earlier tick
  abbrev pub Follows : Act → Act → Type 0
  Follows a b = a.action ≡ b.action → x.tick a.opens < x.tick b.opens

  abbrev is_later : Timed → Bool
  is_later y = has_act commits y || (nat_le now y.start && list_all (λ c. not (c.action == y.action) || nat_lt c.start y.start) commits)

  -- every other act starts at the clock or later, and behind the commitments of its action
  pub later-others : awaited acts commits ≡ [] → AreOnTime → Pairs Follows acts → list_all is_later (map (timed_act x) acts) ≡ true
  later-others none on order = true-each is_later (map (timed_act x) acts) (each-mapped (λ y. is_later y ≡ true) (timed_act x) acts (each-of (λ a. is_later (timed_act x a) ≡ true) acts one)) where
    behind : (a : Act) (k : ℕ) → slice_get (acts_by a.action acts) k ≡ Some a → slice_get (commits_by a.action commits) k ≡ None → (c : Timed) → IsIn c commits → c.action ≡ a.action → c.start < x.tick a.opens
    behind a k here past c i e =
        let m : Met c = met none on c i in
        let last : length (commits_by a.action commits) ≤ k = past_end (commits_by a.action commits) k past in
        let early : m.place < length (commits_by a.action commits) = subst (λ b. m.place < length (commits_by b commits)) e m.early in
        let before : x.tick m.act.opens < x.tick a.opens = pairs-at Follows (acts_by a.action acts) m.place k m.act a (pairs-filter Follows (λ y. y.action == a.action) acts order) (omega (arith, last, early)) (subst (λ b. slice_get (acts_by b acts) m.place ≡ Some m.act) e m.is) here ((met-in c m).1 ∙ e) in
        omega (arith, before, m.start)

    committed : (a : Act) (c : Timed) → IsIn c (commits_by a.action commits) → x.tick a.opens ≡ c.start → finish x a ≡ c.start + c.length → is_later (timed_act x a) ≡ true
    committed a c i s f =
        let same : c.action ≡ a.action = eqb-true c.action a.action (filter-passes (λ d. d.action == a.action) commits c i) in
        let lasts : finish x a - x.tick a.opens ≡ c.length = omega (arith, s, f) in
        or_left _ _ (any-true (same_act (timed_act x a)) commits c (in-filter (λ d. d.action == a.action) c commits i)
        (and_from _ _ (and_from _ _ (eq-eqb a.action c.action (sym same)) (eq-eqb (x.tick a.opens) c.start s)) (eq-eqb (finish x a - x.tick a.opens) c.length lasts)))

    free : (a : Act) → now ≤ x.tick a.opens → ((c : Timed) → IsIn c commits → c.action ≡ a.action → c.start < x.tick a.opens) → is_later (timed_act x a) ≡ true
    free a clock all = or_right (has_act commits (timed_act x a)) _ (and_from _ _ (le-leb now (x.tick a.opens) clock) (true-each _ commits (each-of (λ c. (not (c.action == a.action) || nat_lt c.start (x.tick a.opens)) ≡ true) commits (λ c i. by_test c i (c.action == a.action) refl)))) where
      by_test : (c : Timed) → IsIn c commits → (b : Bool) → (c.action == a.action) ≡ b → (not b || nat_lt c.start (x.tick a.opens)) ≡ true
      by_test c i false e = refl
      by_test c i true e = lt-ltb c.start (x.tick a.opens) (all c i (eqb-true c.action a.action e))

    one : (a : Act) → IsIn a acts → is_later (timed_act x a) ≡ true
    one a i =
        let place : (k : ℕ) × (slice_get (acts_by a.action acts) k ≡ Some a) × (k < length (acts_by a.action acts)) = place-of (acts_by a.action acts) a (filter-in (λ y. y.action == a.action) acts a i (eq-eqb a.action a.action refl)) in
        let time : IsOnTime x now a (slice_get (commits_by a.action commits) place.0) = subst (λ o. IfSome o (λ act. IsOnTime x now act (slice_get (commits_by a.action commits) place.0))) place.1 (on a.action place.0) in
        by_commit place.0 place.1 (slice_get (commits_by a.action commits) place.0) refl time
      where
        by_commit : (k : ℕ) → slice_get (acts_by a.action acts) k ≡ Some a → (o : Option Timed) → slice_get (commits_by a.action commits) k ≡ o → IsOnTime x now a o → is_later (timed_act x a) ≡ true
        by_commit k here None e time = free a time (behind a k here e)
        by_commit k here (Some c) e time = committed a c (in_get (commits_by a.action commits) k c e) time.0 time.1
