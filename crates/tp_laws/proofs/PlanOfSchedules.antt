-- The ticks of a possible plan are a schedule of each front of its word.
use Rattle.std.proofs.Common.{◌≡◌, refl, sym, ap, subst, ◌∙◌, ℕ, suc, ◌+◌, ◌-◌, ◌<◌, ◌≤◌, Bool, true, false, not, List, ◌++◌, length, Option, Some, None, inl, inr, arith}
use Rattle.std.specs.Prelude.{IfSome, slice_get, ◌==◌, ◌||◌, ◌&&◌, nat_lt, nat_le}
use Rattle.std.specs.List.{list_all}
use Rattle.std.proofs.lemmas.Bool.{and_parts, false≢true, eqb-true, eq-eqb, ltb-true, leb-true}
use Rattle.std.proofs.lemmas.List.{length-append}
use Rattle.std.proofs.lemmas.List.Elements.{filter-append}
use Rattle.tp_spec.specs.declared.plan.Limits.{Limits}
use Rattle.tp_spec.specs.declared.plan.Mark.{Mark}
use Rattle.tp_spec.specs.declared.plan.Plan.{Plan}
use Rattle.tp_spec.specs.declared.plan.Timed.{Timed}
use Rattle.tp_spec.specs.declared.problem.Problem.{Problem}
use Rattle.tp_spec.specs.Lists.{IsIn}
use Rattle.tp_spec.specs.Courses.{Possible, in_range, same_act, has_act}
use Rattle.tp_spec.specs.WellFormed.{IsWellFormed}
use Rattle.tp_spec.specs.Words.{Act, groups, acts_of, timed_of}
use Rattle.tp_spec.specs.Schedules.{Schedule, IsSchedule, IsInLength, IsOnTime, finish, timed_act, acts_by, commits_by, awaited}
use Rattle.tp_laws.specs.Plans.{AreInTurn}
use Rattle.tp_laws.proofs.EarlyLists.{each-map, each-in, each-true, in-left}
use Rattle.tp_laws.proofs.PlanOfBeside.{beside-map, beside-length, beside-in, beside-filter, beside-kth, Pairs}
use Rattle.tp_laws.proofs.PlanOfCommits.{Kept, IsKept, Later, Owes, on-time}
use Rattle.tp_laws.proofs.PlanOfAwaited.{OfOne, Behind, awaited-behind}
use Rattle.tp_laws.proofs.PlanOfOrders.{Earlier, plays, pairs-from, pairs-both}
use Rattle.tp_laws.proofs.PlanOfTicks.{groups_at, ticks-rise, ticks-before}
use Rattle.tp_laws.proofs.PlanOfPairs.{Passed, Ahead, Due, Running, Closing, Pair}
use Rattle.tp_laws.proofs.PlanOfStages.{any-of}
use Rattle.tp_laws.proofs.PlanOfWords.{Known, ticks_to}

same-act : (x y : Timed) → same_act x y ≡ true → x ≡ y
same-act x y h =
    let action : x.action ≡ y.action = eqb-true x.action y.action (and_parts _ _ (and_parts _ _ h).0).0 in
    let start : x.start ≡ y.start = eqb-true x.start y.start (and_parts _ _ (and_parts _ _ h).0).1 in
    let long : x.length ≡ y.length = eqb-true x.length y.length (and_parts _ _ h).1 in
    λ i. record { action = action i; start = start i; length = long i }

has-in : (xs : List Timed) (x : Timed) → has_act xs x ≡ true → IsIn x xs
has-in xs x h = let y = any-of (same_act x) xs h in subst (λ z. IsIn z xs) (sym (same-act x y.0 y.2)) y.1

later-of : (c d : Timed) → (not (c.action == d.action) || nat_lt c.start d.start) ≡ true → Later c d
later-of c d h same = by_test (c.action == d.action) (eq-eqb c.action d.action same) h
  where
    by_test : (b : Bool) → b ≡ true → (not b || nat_lt c.start d.start) ≡ true → c.start < d.start
    by_test true e k = ltb-true c.start d.start k
    by_test false e k = absurd (false≢true e)

earlier-later : (x y : Timed) → Earlier x y → Earlier x y → Later x y
earlier-later x y (inl b) e same = b
earlier-later x y (inr b) e same = absurd (omega (arith, b.1, same))

kept-of : (now : ℕ) (commits : List Timed) (x : Timed) → (has_act commits x || (nat_le now x.start && list_all (λ c. not (c.action == x.action) || nat_lt c.start x.start) commits)) ≡ true → IsKept now commits x
kept-of now commits x h = by_test (has_act commits x) refl h
  where
    by_test : (b : Bool) → has_act commits x ≡ b → (b || (nat_le now x.start && list_all (λ c. not (c.action == x.action) || nat_lt c.start x.start) commits)) ≡ true → IsKept now commits x
    by_test true e k = inl (has-in commits x e)
    by_test false e k =
        inr (
          leb-true now x.start (and_parts _ _ k).0,
          each-map (λ c. (not (c.action == x.action) || nat_lt c.start x.start) ≡ true) (λ c. Later c x) commits (λ c. later-of c x) (each-true (λ c. not (c.action == x.action) || nat_lt c.start x.start) commits (and_parts _ _ k).1),
        )

-- what a possible plan has of its commitments
pub kept : (p : Problem) (l : Limits) (now : ℕ) (commits : List Timed) (plan : Plan) → IsWellFormed p → AreInTurn commits → Possible p l now commits plan → Kept now commits plan.acts
kept p l now commits plan formed turn possible = record {
  there = each-map (λ c. has_act plan.acts c ≡ true) (λ c. IsIn c plan.acts) commits (λ c. has-in plan.acts c) (each-true (has_act plan.acts) commits possible.committed);
  later = each-map (λ x. (has_act commits x || (nat_le now x.start && list_all (λ c. not (c.action == x.action) || nat_lt c.start x.start) commits)) ≡ true) (IsKept now commits) plan.acts (kept-of now commits) (each-true (λ x. has_act commits x || (nat_le now x.start && list_all (λ c. not (c.action == x.action) || nat_lt c.start x.start) commits)) plan.acts possible.later);
  commits_rise = pairs-from (λ c d. not (c.action == d.action) || nat_lt c.start d.start) Later commits later-of turn;
  acts_rise =
      let sorted : Pairs Earlier plan.acts = (plays p l plan formed possible.valid).sorted in
      pairs-both Earlier Earlier Later plan.acts earlier-later sorted sorted;
}

if-some : {A : Type 0} (P : A → Type 0) (o : Option A) → ((x : A) → o ≡ Some x → P x) → IfSome o P
if-some P None f = tt
if-some P (Some x) f = f x refl

module _ (p : Problem) (tick : ℕ → ℕ) where
  -- an act ends where its act in the plan does
  pub finished : (ends : ℕ → ℕ) (t j : ℕ) (a : Act) (y : Timed) → Pair p tick ends t j a y → finish (record { tick = tick; end = ends }) a ≡ y.start + y.length
  finished ends t j a y r = by_closes a.closes r.closes
    where
      by_closes : (o : Option ℕ) → Closing p tick ends t j y o → elim o [ Some g ↦ tick g | None ↦ ends a.action ] ≡ y.start + y.length
      by_closes (Some g) c = c
      by_closes None c = ap ends r.named ∙ c.till

  pub punctual : (ends : ℕ → ℕ) (t j now : ℕ) (o : Option Timed) (a : Act) (y : Timed) → Pair p tick ends t j a y → Owes now y o → IsOnTime (record { tick = tick; end = ends }) now a o
  punctual ends t j now None a y r h = omega (arith, r.opens, h)
  punctual ends t j now (Some c) a y r h = (r.opens ∙ ap (λ z. z.start) h, finished ends t j a y r ∙ ap (λ z. z.start + z.length) h)

  pub same-timed : (ends : ℕ → ℕ) (t j : ℕ) (a : Act) (y : Timed) → Pair p tick ends t j a y → timed_act (record { tick = tick; end = ends }) a ≡ y
  same-timed ends t j a y r =
      let long : finish (record { tick = tick; end = ends }) a - tick a.opens ≡ y.length = omega (arith, finished ends t j a y r, r.opens) in
      λ i. record { action = r.named i; start = r.opens i; length = long i }

due_by : (t j : ℕ) (y : Timed) → Due t j y → t ≤ y.start + y.length
due_by t j y (inl b) = omega (arith, b)
due_by t j y (inr b) = omega (arith, b.0)

ahead_by : (s k : ℕ) (y : Timed) → Ahead s k y → s ≤ y.start
ahead_by s k y (inl b) = omega (arith, b)
ahead_by s k y (inr b) = omega (arith, b.0)

-- the ticks of a plan, and the ends of what runs
abbrev pub schedule_of : (p : Problem) (acts : List Timed) (top : ℕ) (u : List Mark) → Known p acts top u → Schedule
schedule_of p acts top u k = record { tick = ticks_to p acts top; end = k.stage.ends }

module _ (p : Problem) (l : Limits) (now : ℕ) (commits : List Timed) (plan : Plan) (formed : IsWellFormed p) (turn : AreInTurn commits) (possible : Possible p l now commits plan) where
  -- the tick of a group
  abbrev tick : ℕ → ℕ
  tick g = ticks_to p plan.acts (suc plan.end) g

  -- an act of a word beside the act of the plan
  abbrev OfPlan : (u : List Mark) → Known p plan.acts (suc plan.end) u → Act → Timed → Type 0
  OfPlan u k = Pair p (ticks_to p plan.acts (suc plan.end)) k.stage.ends k.t k.j

  -- what is awaited stands behind what was read
  pub awaits : (u : List Mark) (k : Known p plan.acts (suc plan.end) u) → Behind (λ y. k.s ≤ y.start) (length k.stage.rest) (awaited (acts_of p u) commits)
  awaits u k =
      awaited-behind (λ y. k.s ≤ y.start) now commits (acts_of p u) k.stage.done k.stage.rest
      (subst (Kept now commits) k.stage.whole (kept p l now commits plan formed turn possible))
      (beside-map (OfPlan u k) OfOne (Passed k.s k.k) (acts_of p u) k.stage.done (λ x y h r. r.named) k.stage.passed k.stage.beside)
      (each-map (Ahead k.s k.k) (λ y. k.s ≤ y.start) k.stage.rest (ahead_by k.s k.k) k.stage.ahead)

  pub is-schedule : (u : List Mark) (k : Known p plan.acts (suc plan.end) u) → groups u ≤ groups_at p plan.acts (suc plan.end) → IsSchedule p l now commits u (schedule_of p plan.acts (suc plan.end) u k)
  is-schedule u k few_groups = record {
    rises = λ g b. ticks-rise p plan.acts (suc plan.end) g (omega (arith, b, few_groups));
    within = λ g b. omega (arith, ticks-before p plan.acts (suc plan.end) g (omega (arith, b, few_groups)), possible.valid.within);
    timed = λ n. if-some (λ g. IfSome (slice_get p.timed n) (λ i. tick g ≡ i.tick)) (slice_get (timed_of u) n)
        (λ g d. if-some (λ i. tick g ≡ i.tick) (slice_get p.timed n) (λ i e. k.clock.stand n g i d e));
    before_next = λ g b. if-some (λ i. tick g < i.tick) (slice_get p.timed (length (timed_of u))) (λ i e. k.clock.early g i b e);
    lengths = λ a i. in_length a (pair_of a i);
    open_late = λ a g i none b. late_enough a g none b (pair_of a i);
    on_time = λ a n. on_time_at a n;
    late = λ c g i b.
        let ahead : k.s ≤ c.start = each-in (λ y. k.s ≤ y.start) (awaited (acts_of p u) commits) c (awaits u k).each i in
        omega (arith, ahead, k.stage.ticks g b);
    few = omega (arith, (awaits u k).few, beside-length (OfPlan u k) (acts_of p u) k.stage.done k.stage.beside, ap length k.stage.whole, length-append k.stage.done k.stage.rest, possible.valid.few);
  }
    where
      in_plan : (y : Timed) → IsIn y k.stage.done → IsIn y plan.acts
      in_plan y i = subst (IsIn y) (sym k.stage.whole) (in-left y k.stage.done k.stage.rest i)

      pair_of : (a : Act) → IsIn a (acts_of p u) → (y : Timed) × IsIn y k.stage.done × OfPlan u k a y
      pair_of a i = beside-in (OfPlan u k) (acts_of p u) k.stage.done a k.stage.beside i

      in_length : (a : Act) → ((y : Timed) × IsIn y k.stage.done × OfPlan u k a y) → IsInLength p l (schedule_of p plan.acts (suc plan.end) u k) a
      in_length a y =
          let ends : finish (schedule_of p plan.acts (suc plan.end) u k) a ≡ y.0.start + y.0.length = finished p tick k.stage.ends k.t k.j a y.0 y.2 in
          let long : finish (schedule_of p plan.acts (suc plan.end) u k) a - tick a.opens ≡ y.0.length = omega (arith, ends, y.2.opens) in
          let by_end : y.0.start + y.0.length ≤ plan.end = leb-true (y.0.start + y.0.length) plan.end (each-in (λ z. nat_le (z.start + z.length) plan.end ≡ true) plan.acts y.0 (each-true (λ z. nat_le (z.start + z.length) plan.end) plan.acts possible.valid.all_ended) (in_plan y.0 y.1)) in
          record {
            forward = omega (arith, ends, y.2.opens);
            allowed = (λ i. in_range p (y.2.named i) (long i)) ∙ each-in (λ z. in_range p z.action z.length ≡ true) plan.acts y.0 (each-true (λ z. in_range p z.action z.length) plan.acts possible.valid.lengths) (in_plan y.0 y.1);
            within = omega (arith, ends, by_end, possible.valid.within);
          }

      late_enough : (a : Act) (g : ℕ) → a.closes ≡ None → g < groups u → ((y : Timed) × IsIn y k.stage.done × OfPlan u k a y) → tick g ≤ finish (schedule_of p plan.acts (suc plan.end) u k) a
      late_enough a g none b y =
          let runs : Running p tick k.stage.ends k.t k.j y.0 = subst (Closing p tick k.stage.ends k.t k.j y.0) none y.2.closes in
          omega (arith, finished p tick k.stage.ends k.t k.j a y.0 y.2, due_by k.t k.j y.0 runs.due, k.stage.order, k.stage.ticks g b)

      on_time_at : (a n : ℕ) → IfSome (slice_get (acts_by a (acts_of p u)) n) (λ act. IsOnTime (schedule_of p plan.acts (suc plan.end) u k) now act (slice_get (commits_by a commits) n))
      on_time_at a n =
          let split : commits_by a plan.acts ≡ commits_by a k.stage.done ++ commits_by a k.stage.rest = ap (commits_by a) k.stage.whole ∙ filter-append (λ y. y.action == a) k.stage.done k.stage.rest in
          beside-kth (OfPlan u k) (λ act. IsOnTime (schedule_of p plan.acts (suc plan.end) u k) now act (slice_get (commits_by a commits) n)) (λ y. Owes now y (slice_get (commits_by a commits) n))
          (acts_by a (acts_of p u)) (commits_by a k.stage.done) (commits_by a k.stage.rest) n
          (λ act y r h. punctual p tick k.stage.ends k.t k.j now (slice_get (commits_by a commits) n) act y r h)
          (beside-filter (OfPlan u k) (λ act. act.action == a) (λ y. y.action == a) (acts_of p u) k.stage.done (λ act y r. ap (λ b. b == a) r.named) k.stage.beside)
          (subst (λ ys. IfSome (slice_get ys n) (λ y. Owes now y (slice_get (commits_by a commits) n))) split (on-time now commits plan.acts (kept p l now commits plan formed turn possible) a n))
