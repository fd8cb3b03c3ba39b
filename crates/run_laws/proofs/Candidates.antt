-- The first start that is no commitment: its place among the acts of its action, and what is awaited once it is committed.
use Rattle.std.proofs.Common.{◌≡◌, refl, sym, ap, subst, ◌∙◌, ℕ, suc, ◌+◌, ◌<◌, ◌≤◌, ◌==◌, ◌⊎◌, inl, inr, Bool, true, false, cond, eqb, List, [], ◌∷◌, ◌++◌, length, Some, arith}
use Rattle.std.specs.Prelude.{IfSome, slice_get, count_by, nat_lt, ◌||◌, if◌then◌else◌}
use Rattle.std.specs.List.{list_any}
use Rattle.std.proofs.lemmas.Bool.{false≢true, eqb-true, eq-eqb, ltb-true, ltb-false}
use Rattle.std.proofs.lemmas.List.Sums.{sum_by-append, length-filter}
use Rattle.std.proofs.lemmas.Option.{slice_get_within}
use Rattle.tp_spec.specs.declared.plan.Limits.{Limits}
use Rattle.tp_spec.specs.declared.plan.Mark.{Mark}
use Rattle.tp_spec.specs.declared.plan.Timed.{Timed}
use Rattle.tp_spec.specs.declared.problem.Problem.{Problem}
use Rattle.tp_spec.specs.Lists.{IsIn}
use Rattle.tp_spec.specs.Words.{Act, Sound, groups, acts_of}
use Rattle.tp_spec.specs.Schedules.{Schedule, IsSchedule, IsOnTime, acts_by, commits_by, awaited, without_first}
use Rattle.tp_spec.specs.Machine.{candidate}
use Rattle.tp_laws.proofs.WordOfLists.{filter-in}
use Rattle.tp_laws.proofs.ClockActs.{there, sound-acts}
use Rattle.tp_laws.proofs.ClockCommits.{in_get}
use Rattle.tp_laws.proofs.ClockLaws.{ticks_rise}
use Rattle.tp_laws.proofs.ValidOfActs.{Behind, kept}
use Rattle.tp_laws.proofs.ValidOfLists.{Pairs, each-of, pairs-with, pairs-filter, pairs-at, filter-passes, place-of}

-- no action has more acts so far than commitments
abbrev Within : List Timed → List Act → Type 0
Within commits before = (a : ℕ) → count_by (λ y. y.action == a) before ≤ count_by (λ c. c.action == a) commits

-- one more act of an action that has a commitment left
within-more : (commits : List Timed) (before : List Act) (y : Act) → Within commits before → count_by (λ z. z.action == y.action) before < count_by (λ c. c.action == y.action) commits → Within commits (before ++ y ∷ [])
within-more commits before y h room a =
    by_test (eqb y.action a) refl (sum_by-append (λ z. cond (z.action == a) 1 0) before (y ∷ []))
  where
    by_test : (b : Bool) → eqb y.action a ≡ b → count_by (λ z. z.action == a) (before ++ y ∷ []) ≡ count_by (λ z. z.action == a) before + (0 + cond b 1 0) → count_by (λ z. z.action == a) (before ++ y ∷ []) ≤ count_by (λ c. c.action == a) commits
    by_test true e more =
        let here : count_by (λ z. z.action == a) before < count_by (λ c. c.action == a) commits = subst (λ n. count_by (λ z. z.action == n) before < count_by (λ c. c.action == n) commits) (eqb-true y.action a e) room in
        omega (arith, more, here)
    by_test false e more = omega (arith, more, h a)

-- a member is the k-th act of its action, where so many came before, and each commitment is before it
record Place (commits : List Timed) (before xs : List Act) (next : Act) : Type 0 where
  k : ℕ
  here : slice_get (acts_by next.action xs) k ≡ Some next
  count : count_by (λ y. y.action == next.action) before + k ≡ count_by (λ c. c.action == next.action) commits

place : (commits : List Timed) (before xs : List Act) (next : Act) → Within commits before → candidate before commits xs ≡ Some next → Place commits before xs next
place commits before [] next h is = absurd cc
place commits before (y ∷ ys) next h is =
    by_test (place commits (before ++ y ∷ []) ys next) (nat_lt (count_by (λ z. z.action == y.action) before) (count_by (λ c. c.action == y.action) commits)) refl is
  where
    more : Place commits (before ++ y ∷ []) ys next → (b : Bool) → count_by (λ z. z.action == next.action) (before ++ y ∷ []) ≡ count_by (λ z. z.action == next.action) before + (0 + cond b 1 0) → (k : ℕ) × (slice_get (cond b (y ∷ acts_by next.action ys) (acts_by next.action ys)) k ≡ Some next) × (count_by (λ z. z.action == next.action) before + k ≡ count_by (λ c. c.action == next.action) commits)
    more r true e = (suc r.k, r.here, omega (arith, e, r.count))
    more r false e = (r.k, r.here, omega (arith, e, r.count))

    by_test : (Within commits (before ++ y ∷ []) → candidate (before ++ y ∷ []) commits ys ≡ Some next → Place commits (before ++ y ∷ []) ys next) → (b : Bool) → nat_lt (count_by (λ z. z.action == y.action) before) (count_by (λ c. c.action == y.action) commits) ≡ b → (if b then candidate (before ++ y ∷ []) commits ys else Some y) ≡ Some next → Place commits before (y ∷ ys) next
    by_test ih true e is =
        let r = more (ih (within-more commits before y h (ltb-true _ _ e)) is) (eqb y.action next.action) (sum_by-append (λ z. cond (z.action == next.action) 1 0) before (y ∷ [])) in
        record { k = r.0; here = r.1; count = r.2 }
    by_test ih false e is =
        let same : y ≡ next = cc in
        let full : count_by (λ c. c.action == y.action) commits ≤ count_by (λ z. z.action == y.action) before = ltb-false _ _ e in
        let whole : count_by (λ z. z.action == y.action) before + 0 ≡ count_by (λ c. c.action == y.action) commits = omega (arith, full, h y.action) in
        record {
          k = 0;
          here = ap (λ b. slice_get (cond b (y ∷ acts_by next.action ys) (acts_by next.action ys)) 0) (eq-eqb y.action next.action (ap (λ z. z.action) same)) ∙ ap Some same;
          count = subst (λ (z : Act). count_by (λ u. u.action == z.action) before + 0 ≡ count_by (λ c. c.action == z.action) commits) same whole;
        }

counted : (a : ℕ) (c : List Timed) → length (commits_by a c) ≡ count_by (λ q. q.action == a) c
counted a c = length-filter (λ q. q.action == a) c

-- as many acts of its action come before it as are committed
abbrev pub IsNextOf : List Timed → List Act → Act → Type 0
IsNextOf commits acts next = slice_get (acts_by next.action acts) (length (commits_by next.action commits)) ≡ Some next

pub next-place : (commits : List Timed) (acts : List Act) (next : Act) → candidate [] commits acts ≡ Some next → IsNextOf commits acts next
next-place commits acts next is =
    let r : Place commits [] acts next = place commits [] acts next (λ a. omega arith) is in
    let count : 0 + r.k ≡ count_by (λ c. c.action == next.action) commits = r.count in
    let same : r.k ≡ length (commits_by next.action commits) = omega (arith, count, counted next.action commits) in
    subst (λ k. slice_get (acts_by next.action acts) k ≡ Some next) same r.here

-- what is awaited of commitments

-- an act taken out is one act of its action
fewer : (a b : ℕ) (xs : List Act) → length (acts_by a xs) ≤ cond (b == a) 1 0 + length (acts_by a (without_first b xs))
fewer a b [] = omega arith
fewer a b (x ∷ xs) = by_tests (fewer a b xs) (x.action == b) (x.action == a) refl refl where
  same : x.action ≡ b → (b == a) ≡ (x.action == a)
  same e = ap (λ n. n == a) (sym e)

  by_tests : length (acts_by a xs) ≤ cond (b == a) 1 0 + length (acts_by a (without_first b xs))
      → (c d : Bool) → (x.action == b) ≡ c → (x.action == a) ≡ d
      → length (cond d (x ∷ acts_by a xs) (acts_by a xs)) ≤ cond (b == a) 1 0 + length (acts_by a (cond c xs (x ∷ without_first b xs)))
  by_tests ih true d e f = subst (λ r. length (cond d (x ∷ acts_by a xs) (acts_by a xs)) ≤ cond r 1 0 + length (acts_by a xs)) (sym (same (eqb-true x.action b e) ∙ f)) (first d) where
    first : (d : Bool) → length (cond d (x ∷ acts_by a xs) (acts_by a xs)) ≤ cond d 1 0 + length (acts_by a xs)
    first true = omega arith
    first false = omega arith
  by_tests ih false d e f = subst (λ r. length (cond d (x ∷ acts_by a xs) (acts_by a xs)) ≤ cond (b == a) 1 0 + length (cond r (x ∷ acts_by a (without_first b xs)) (acts_by a (without_first b xs)))) (sym f) (either d) where
    either : (d : Bool) → length (cond d (x ∷ acts_by a xs) (acts_by a xs)) ≤ cond (b == a) 1 0 + length (cond d (x ∷ acts_by a (without_first b xs)) (acts_by a (without_first b xs)))
    either true = omega (arith, ih)
    either false = ih

one-less : (a : ℕ) (xs : List Act) → list_any (λ x. x.action == a) xs ≡ true → length xs ≡ suc (length (without_first a xs))
one-less a [] h = absurd (false≢true h)
one-less a (x ∷ xs) h = by_test (one-less a xs) (x.action == a) h where
  by_test : (list_any (λ y. y.action == a) xs ≡ true → length xs ≡ suc (length (without_first a xs))) → (b : Bool) → (b || list_any (λ y. y.action == a) xs) ≡ true → suc (length xs) ≡ suc (length (cond b xs (x ∷ without_first a xs)))
  by_test ih true e = refl
  by_test ih false e = ap suc (ih e)

some-act : (a : ℕ) (xs : List Act) → 0 < length (acts_by a xs) → list_any (λ x. x.action == a) xs ≡ true
some-act a [] h = absurd (omega (arith, h))
some-act a (x ∷ xs) h = by_test (some-act a xs) (x.action == a) h where
  by_test : (0 < length (acts_by a xs) → list_any (λ y. y.action == a) xs ≡ true) → (b : Bool) → 0 < length (cond b (x ∷ acts_by a xs) (acts_by a xs)) → (b || list_any (λ y. y.action == a) xs) ≡ true
  by_test ih true e = refl
  by_test ih false e = ih e

pub head-count : {A : Type 0} (b : Bool) (x : A) (xs : List A) → length (cond b (x ∷ xs) xs) ≡ cond b 1 0 + length xs
head-count true x xs = omega arith
head-count false x xs = omega arith

-- a commitment of an action that has an act left is not awaited
pub awaited-met : (acts : List Act) (commits : List Timed) (c : Timed) → length (commits_by c.action commits) < length (acts_by c.action acts) → awaited acts (commits ++ c ∷ []) ≡ awaited acts commits
awaited-met acts [] c h = ap (λ b. cond b [] (c ∷ [])) (some-act c.action acts (omega (arith, h)))
awaited-met acts (d ∷ rest) c h =
    by_test (λ k. awaited-met (without_first d.action acts) rest c k) (λ k. awaited-met acts rest c k) (list_any (λ x. x.action == d.action) acts)
  where
    one : length (cond (d.action == c.action) (d ∷ commits_by c.action rest) (commits_by c.action rest)) ≡ cond (d.action == c.action) 1 0 + length (commits_by c.action rest)
    one = head-count (d.action == c.action) d (commits_by c.action rest)

    by_test : (length (commits_by c.action rest) < length (acts_by c.action (without_first d.action acts)) → awaited (without_first d.action acts) (rest ++ c ∷ []) ≡ awaited (without_first d.action acts) rest)
        → (length (commits_by c.action rest) < length (acts_by c.action acts) → awaited acts (rest ++ c ∷ []) ≡ awaited acts rest)
        → (b : Bool) → cond b (awaited (without_first d.action acts) (rest ++ c ∷ [])) (d ∷ awaited acts (rest ++ c ∷ [])) ≡ cond b (awaited (without_first d.action acts) rest) (d ∷ awaited acts rest)
    by_test took left true = took (omega (arith, h, one, fewer c.action d.action acts))
    by_test took left false = ap (λ ts. d ∷ ts) (left (omega (arith, h, one)))

-- each commitment is an act or awaited
pub commits-few : (acts : List Act) (commits : List Timed) → length commits ≤ length acts + length (awaited acts commits)
commits-few acts [] = omega arith
commits-few acts (c ∷ rest) = by_test (commits-few (without_first c.action acts) rest) (commits-few acts rest) (list_any (λ x. x.action == c.action) acts) refl where
  by_test : length rest ≤ length (without_first c.action acts) + length (awaited (without_first c.action acts) rest) → length rest ≤ length acts + length (awaited acts rest) → (b : Bool) → list_any (λ x. x.action == c.action) acts ≡ b → suc (length rest) ≤ length acts + length (cond b (awaited (without_first c.action acts) rest) (c ∷ awaited acts rest))
  by_test took left true e = omega (arith, took, one-less c.action acts e)
  by_test took left false e = omega (arith, left)

-- of two acts of one action the earlier opens at an earlier tick
abbrev pub Follows : Schedule → Act → Act → Type 0
Follows x a b = a.action ≡ b.action → x.tick a.opens < x.tick b.opens

pub acts-follow : (p : Problem) (l : Limits) (now : ℕ) (commits : List Timed) (w : List Mark) (x : Schedule) → Sound p w → IsSchedule p l now commits w x → Pairs (Follows x) (acts_of p w)
acts-follow p l now commits w x sound is = pairs-with Behind (Follows x) (λ a. a.opens < groups w) (acts_of p w) (λ a b f g r e. by_group a b g e r.order) (each-of (λ a. a.opens < groups w) (acts_of p w) (sound-acts p w sound).opens) (kept p w sound).pairs where
  rises : (i j : ℕ) → i < j → j < groups w → x.tick i < x.tick j
  rises i j lt below =
      let one : x.tick i < x.tick (suc i) = is.rises i (omega (arith, lt, below)) in
      let rest : x.tick (suc i) ≤ x.tick j = ticks_rise (groups w) x.tick is.rises (suc i) j (omega (arith, lt)) (omega (arith, below)) in
      omega (arith, one, rest)

  by_group : (a b : Act) → b.opens < groups w → a.action ≡ b.action → (a.opens < b.opens) ⊎ ((a.opens ≡ b.opens) × (a.action < b.action)) → x.tick a.opens < x.tick b.opens
  by_group a b g e (inl lt) = rises a.opens b.opens lt g
  by_group a b g e (inr q) = absurd (omega (arith, e, q.1))

module _ (x : Schedule) (now : ℕ) (acts : List Act) (commits : List Timed) where
  abbrev pub AreOnTime : Type 0
  AreOnTime = (a k : ℕ) → IfSome (slice_get (acts_by a acts) k) (λ act. IsOnTime x now act (slice_get (commits_by a commits) k))

  -- each commitment of its action starts before it
  pub starts-before : AreOnTime → Pairs (Follows x) acts → (next : Act) → IsNextOf commits acts next → (c : Timed) → IsIn c commits → c.action ≡ next.action → c.start < x.tick next.opens
  starts-before on order next here c i same =
      let at : (k : ℕ) × (slice_get (commits_by next.action commits) k ≡ Some c) × (k < length (commits_by next.action commits)) = place-of (commits_by next.action commits) c (filter-in (λ d. d.action == next.action) commits c i (eq-eqb c.action next.action same)) in
      let last : length (commits_by next.action commits) < length (acts_by next.action acts) = slice_get_within (acts_by next.action acts) _ next here in
      let act : (a : Act) × (slice_get (acts_by next.action acts) at.0 ≡ Some a) = there (acts_by next.action acts) at.0 (omega (arith, at.2, last)) in
      let time : IsOnTime x now act.0 (Some c) = subst (IsOnTime x now act.0) at.1 (subst (λ o. IfSome o (λ a. IsOnTime x now a (slice_get (commits_by next.action commits) at.0))) act.1 (on next.action at.0)) in
      let of_one : act.0.action ≡ next.action = eqb-true act.0.action next.action (filter-passes (λ y. y.action == next.action) acts act.0 (in_get (acts_by next.action acts) at.0 act.0 act.1)) in
      let before : x.tick act.0.opens < x.tick next.opens = pairs-at (Follows x) (acts_by next.action acts) at.0 (length (commits_by next.action commits)) act.0 next (pairs-filter (Follows x) (λ y. y.action == next.action) acts order) at.2 act.1 here of_one in
      omega (arith, before, time.0)
