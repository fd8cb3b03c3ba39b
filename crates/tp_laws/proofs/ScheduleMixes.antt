-- Two schedules of a word, mixed component by component by the greater ticks, or by the lesser ones, are a schedule, since
-- each constraint bounds one component or the difference of two.
use Rattle.std.proofs.Common.{◌≡◌, refl, sym, ap, ◌∙◌, ℕ, suc, ◌+◌, ◌-◌, ◌<◌, ◌≤◌, max, min, nat_le, ◌==◌, true, List, length, Option, Some, None, arith}
use Rattle.std.specs.Prelude.{IfSome, slice_get}
use Rattle.std.proofs.lemmas.Bool.{and_parts, and_from, leb-true, le-leb, eqb-true, eq-eqb}
use Rattle.tp_spec.specs.declared.plan.Limits.{Limits}
use Rattle.tp_spec.specs.declared.plan.Mark.{Mark}
use Rattle.tp_spec.specs.declared.plan.Timed.{Timed}
use Rattle.tp_spec.specs.declared.problem.Action.{Action}
use Rattle.tp_spec.specs.declared.problem.Kind.{Kind}
use Rattle.tp_spec.specs.declared.problem.Kind.TheVariants.{Instant, Durative}
use Rattle.tp_spec.specs.declared.problem.Problem.{Problem}
use Rattle.tp_spec.specs.declared.problem.TimedItem.{TimedItem}
use Rattle.tp_spec.specs.Lists.{IsIn, some_and}
use Rattle.tp_spec.specs.Courses.{allows_length}
use Rattle.tp_spec.specs.Words.{Act, acts_of, groups, timed_of}
use Rattle.tp_spec.specs.Schedules.{Schedule, IsSchedule, IsInLength, IsOnTime, acts_by, commits_by, finish}
use Rattle.tp_laws.specs.Clocks.{HasActsInGroups}
use Rattle.tp_laws.proofs.ClockCommits.{in_get}
use Rattle.tp_laws.proofs.Members.{in-filter}

-- an operation on ticks that keeps order and distance
pub record IsMix (op : ℕ → ℕ → ℕ) : Type 0 where
  pub rises : (a b c d : ℕ) → a ≤ c → b ≤ d → op a b ≤ op c d
  pub shifts : (a b k : ℕ) → op (a + k) (b + k) ≡ op a b + k
  pub same : (a : ℕ) → op a a ≡ a

pub mix-max : IsMix max
mix-max = record { rises = λ a b c d h k. omega (arith, h, k); shifts = λ a b k. omega arith; same = λ a. omega arith }

pub mix-min : IsMix min
mix-min = record { rises = λ a b c d h k. omega (arith, h, k); shifts = λ a b k. omega arith; same = λ a. omega arith }

some-from : {A : Type 0} (o : Option A) (P : A → Type 0) → ((x : A) → o ≡ Some x → P x) → IfSome o P
some-from None P f = tt
some-from (Some x) P f = f x refl

some-three : {A : Type 0} (o : Option A) (P Q R S : A → Type 0) → ((x : A) → P x → Q x → R x → S x) → IfSome o P → IfSome o Q → IfSome o R → IfSome o S
some-three None P Q R S f a b c = a
some-three (Some x) P Q R S f a b c = f x a b c

some-two : {A : Type 0} (o : Option A) (P Q R : A → Type 0) → ((x : A) → P x → Q x → R x) → IfSome o P → IfSome o Q → IfSome o R
some-two None P Q R f a b = a
some-two (Some x) P Q R f a b = f x a b

module _ (op : ℕ → ℕ → ℕ) (mix : IsMix op) where
  up : (a b c d e f : ℕ) → e ≡ op a b → f ≡ op c d → a ≤ c → b ≤ d → e ≤ f
  up a b c d e f s t h k = omega (arith, s, t, mix.rises a b c d h k)

  strictly : (a b c d e f : ℕ) → e ≡ op a b → f ≡ op c d → a < c → b < d → e < f
  strictly a b c d e f s t h k = omega (arith, s, t, mix.shifts a b 1, mix.rises (a + 1) (b + 1) c d (omega (arith, h)) (omega (arith, k)))

  no-more : (a b e n : ℕ) → e ≡ op a b → a ≤ n → b ≤ n → e ≤ n
  no-more a b e n s h k = up a b n n e n s (sym (mix.same n)) h k

  less : (a b e n : ℕ) → e ≡ op a b → a < n → b < n → e < n
  less a b e n s h k = strictly a b n n e n s (sym (mix.same n)) h k

  no-less : (a b e n : ℕ) → e ≡ op a b → n ≤ a → n ≤ b → n ≤ e
  no-less a b e n s h k = up n n a b n e (sym (mix.same n)) s h k

  equal : (a b e n : ℕ) → e ≡ op a b → a ≡ n → b ≡ n → e ≡ n
  equal a b e n s h k = s ∙ ap (λ i. op i b) h ∙ ap (λ i. op n i) k ∙ mix.same n

  -- a length between two lengths that a kind allows
  length-at-most : (a b c d e f most : ℕ) → e ≡ op a b → f ≡ op c d → c ≤ a + most → d ≤ b + most → f ≤ e + most
  length-at-most a b c d e f most s t h k = omega (arith, s, t, mix.rises c d (a + most) (b + most) h k, mix.shifts a b most)

  length-at-least : (a b c d e f least : ℕ) → e ≡ op a b → f ≡ op c d → a + least ≤ c → b + least ≤ d → e + least ≤ f
  length-at-least a b c d e f least s t h k = omega (arith, s, t, mix.rises (a + least) (b + least) c d h k, mix.shifts a b least)

  allows : (kind : Kind) (a b c d e f : ℕ) → e ≡ op a b → f ≡ op c d → a ≤ c → b ≤ d
      → allows_length kind (c - a) ≡ true → allows_length kind (d - b) ≡ true → allows_length kind (f - e) ≡ true
  allows Instant a b c d e f s t h k u v =
      let x : c - a ≡ 0 = eqb-true (c - a) 0 u in
      let y : d - b ≡ 0 = eqb-true (d - b) 0 v in
      eq-eqb (f - e) 0 (omega (arith, length-at-most a b c d e f 0 s t (omega (arith, x, h)) (omega (arith, y, k))))
  allows (Durative least most) a b c d e f s t h k u v =
      let x : least ≤ c - a = leb-true least (c - a) (and_parts (nat_le least (c - a)) (nat_le (c - a) most) u).0 in
      let y : least ≤ d - b = leb-true least (d - b) (and_parts (nat_le least (d - b)) (nat_le (d - b) most) v).0 in
      let z : c - a ≤ most = leb-true (c - a) most (and_parts (nat_le least (c - a)) (nat_le (c - a) most) u).1 in
      let w : d - b ≤ most = leb-true (d - b) most (and_parts (nat_le least (d - b)) (nat_le (d - b) most) v).1 in
      and_from _ _
      (le-leb least (f - e) (omega (arith, length-at-least a b c d e f least s t (omega (arith, x, h)) (omega (arith, y, k)))))
      (le-leb (f - e) most (omega (arith, length-at-most a b c d e f most s t (omega (arith, z, h)) (omega (arith, w, k)))))

  allowed : (o : Option Action) (a b c d e f : ℕ) → e ≡ op a b → f ≡ op c d → a ≤ c → b ≤ d
      → some_and o (λ x. allows_length x.kind (c - a)) ≡ true → some_and o (λ x. allows_length x.kind (d - b)) ≡ true → some_and o (λ x. allows_length x.kind (f - e)) ≡ true
  allowed None a b c d e f s t h k u v = u
  allowed (Some x) a b c d e f s t h k u v = allows x.kind a b c d e f s t h k u v

  module _ (p : Problem) (l : Limits) (now : ℕ) (commits : List Timed) (w : List Mark) (inside : HasActsInGroups p w)
      (x y z : Schedule) (sx : IsSchedule p l now commits w x) (sy : IsSchedule p l now commits w y)
      (ticks : (g : ℕ) → g < groups w → z.tick g ≡ op (x.tick g) (y.tick g))
      (ends : (a : Act) → IsIn a (acts_of p w) → a.closes ≡ None → z.end a.action ≡ op (x.end a.action) (y.end a.action)) where
    finishes : (a : Act) → IsIn a (acts_of p w) → finish z a ≡ op (finish x a) (finish y a)
    finishes a i = by_closes a.closes refl (inside.closes a i)
      where
        by_closes : (o : Option ℕ) → a.closes ≡ o → IfSome o (λ g. g < groups w)
            → elim o [ Some g ↦ z.tick g | None ↦ z.end a.action ] ≡ op (elim o [ Some g ↦ x.tick g | None ↦ x.end a.action ]) (elim o [ Some g ↦ y.tick g | None ↦ y.end a.action ])
        by_closes None e h = ends a i e
        by_closes (Some g) e h = ticks g h

    starts : (a : Act) → IsIn a (acts_of p w) → z.tick a.opens ≡ op (x.tick a.opens) (y.tick a.opens)
    starts a i = ticks a.opens (inside.opens a i)

    timed-at : (o : Option TimedItem) (g : ℕ) → g < groups w → IfSome o (λ i. x.tick g ≡ i.tick) → IfSome o (λ i. y.tick g ≡ i.tick) → IfSome o (λ i. z.tick g ≡ i.tick)
    timed-at o g lt = some-two o (λ i. x.tick g ≡ i.tick) (λ i. y.tick g ≡ i.tick) (λ i. z.tick g ≡ i.tick) (λ i h k. equal (x.tick g) (y.tick g) (z.tick g) i.tick (ticks g lt) h k)

    before-at : (o : Option TimedItem) (g : ℕ) → g < groups w → IfSome o (λ i. x.tick g < i.tick) → IfSome o (λ i. y.tick g < i.tick) → IfSome o (λ i. z.tick g < i.tick)
    before-at o g lt = some-two o (λ i. x.tick g < i.tick) (λ i. y.tick g < i.tick) (λ i. z.tick g < i.tick) (λ i h k. less (x.tick g) (y.tick g) (z.tick g) i.tick (ticks g lt) h k)

    in-length : (a : Act) → IsIn a (acts_of p w) → IsInLength p l x a → IsInLength p l y a → IsInLength p l z a
    in-length a i h k = record {
      forward = up (x.tick a.opens) (y.tick a.opens) (finish x a) (finish y a) (z.tick a.opens) (finish z a) (starts a i) (finishes a i) h.forward k.forward;
      allowed = allowed (slice_get p.actions a.action) (x.tick a.opens) (y.tick a.opens) (finish x a) (finish y a) (z.tick a.opens) (finish z a) (starts a i) (finishes a i) h.forward k.forward h.allowed k.allowed;
      within = no-more (finish x a) (finish y a) (finish z a) l.horizon (finishes a i) h.within k.within;
    }

    at-time : (o : Option Timed) (a : Act) → IsIn a (acts_of p w) → IsOnTime x now a o → IsOnTime y now a o → IsOnTime z now a o
    at-time None a i h k = no-less (x.tick a.opens) (y.tick a.opens) (z.tick a.opens) now (starts a i) h k
    at-time (Some c) a i h k = (
      equal (x.tick a.opens) (y.tick a.opens) (z.tick a.opens) c.start (starts a i) h.0 k.0,
      equal (finish x a) (finish y a) (finish z a) (c.start + c.length) (finishes a i) h.1 k.1,
    )

    -- the k-th act of an action is an act of the word
    act-in : (a k : ℕ) → IfSome (slice_get (acts_by a (acts_of p w)) k) (λ act. IsIn act (acts_of p w))
    act-in a k = some-from (slice_get (acts_by a (acts_of p w)) k) (λ act. IsIn act (acts_of p w)) (λ act e. in-filter (λ b. b.action == a) act (acts_of p w) (in_get (acts_by a (acts_of p w)) k act e))

    group-in : (k : ℕ) → IfSome (slice_get (timed_of w) k) (λ g. g < groups w)
    group-in k = some-from (slice_get (timed_of w) k) (λ g. g < groups w) (λ g e. inside.timed g (in_get (timed_of w) k g e))

    pub mixed : IsSchedule p l now commits w z
    mixed = record {
      rises = λ g lt. strictly (x.tick g) (y.tick g) (x.tick (suc g)) (y.tick (suc g)) (z.tick g) (z.tick (suc g)) (ticks g (omega (arith, lt))) (ticks (suc g) lt) (sx.rises g lt) (sy.rises g lt);
      within = λ g lt. no-more (x.tick g) (y.tick g) (z.tick g) l.horizon (ticks g lt) (sx.within g lt) (sy.within g lt);
      timed = λ k.
          some-three (slice_get (timed_of w) k) (λ g. g < groups w) (λ g. IfSome (slice_get p.timed k) (λ i. x.tick g ≡ i.tick)) (λ g. IfSome (slice_get p.timed k) (λ i. y.tick g ≡ i.tick)) (λ g. IfSome (slice_get p.timed k) (λ i. z.tick g ≡ i.tick))
          (λ g lt. timed-at (slice_get p.timed k) g lt) (group-in k) (sx.timed k) (sy.timed k);
      before_next = λ g lt. before-at (slice_get p.timed (length (timed_of w))) g lt (sx.before_next g lt) (sy.before_next g lt);
      lengths = λ a i. in-length a i (sx.lengths a i) (sy.lengths a i);
      open_late = λ a g i e lt. up (x.tick g) (y.tick g) (finish x a) (finish y a) (z.tick g) (finish z a) (ticks g lt) (finishes a i) (sx.open_late a g i e lt) (sy.open_late a g i e lt);
      on_time = λ a k.
          some-three (slice_get (acts_by a (acts_of p w)) k) (λ act. IsIn act (acts_of p w)) (λ act. IsOnTime x now act (slice_get (commits_by a commits) k)) (λ act. IsOnTime y now act (slice_get (commits_by a commits) k)) (λ act. IsOnTime z now act (slice_get (commits_by a commits) k))
          (λ act i. at-time (slice_get (commits_by a commits) k) act i) (act-in a k) (sx.on_time a k) (sy.on_time a k);
      late = λ c g i lt. no-more (x.tick g) (y.tick g) (z.tick g) c.start (ticks g lt) (sx.late c g i lt) (sy.late c g i lt);
      few = sx.few;
    }
