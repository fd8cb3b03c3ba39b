-- Whether a tick for each group and an end for each running act are a schedule of a word can be told: all that is asked is
-- of finitely many numbers.
use Rattle.std.proofs.Common.{◌≡◌, refl, subst, ℕ, zero, suc, ◌+◌, ◌-◌, ◌<◌, ◌≤◌, ◌⊎◌, inl, inr, Bool, true, false, List, [], ◌∷◌, length, Option, Some, None, arith}
use Rattle.std.specs.Prelude.{IfSome, slice_get}
use Rattle.std.proofs.lemmas.Bool.{false≢true, cases_lt}
use Rattle.tp_spec.specs.declared.plan.Limits.{Limits}
use Rattle.tp_spec.specs.declared.plan.Mark.{Mark}
use Rattle.tp_spec.specs.declared.plan.Timed.{Timed}
use Rattle.tp_spec.specs.declared.problem.Problem.{Problem}
use Rattle.tp_spec.specs.Lists.{IsIn}
use Rattle.tp_spec.specs.Courses.{in_range}
use Rattle.tp_spec.specs.Words.{Act, acts_of, groups, timed_of}
use Rattle.tp_spec.specs.Schedules.{Schedule, IsSchedule, IsInLength, IsOnTime, acts_by, awaited, commits_by, finish}
use Rattle.tp_laws.proofs.ClockKth.{EachWith, bumped, kth-each, each-kth}
use Rattle.tp_laws.proofs.ClockLaws.{from_first, to_first}

-- it holds, or it does not
abbrev pub Told : Type 0 → Type 0
Told A = A ⊎ (¬ A)

pub told-like : {A B : Type 0} → (A → B) → (B → A) → Told A → Told B
told-like f g (inl a) = inl (f a)
told-like f g (inr n) = inr (λ b. n (g b))

pub told-both : {A B : Type 0} → Told A → Told B → Told (A × B)
told-both (inl a) (inl b) = inl (a, b)
told-both (inl a) (inr n) = inr (λ h. n h.1)
told-both (inr n) t = inr (λ h. n h.0)

told-if : {A B : Type 0} → Told A → Told B → Told (A → B)
told-if (inl a) (inl b) = inl (λ h. b)
told-if (inl a) (inr n) = inr (λ h. n (h a))
told-if (inr n) t = inl (λ a. absurd (n a))

told-le : (a b : ℕ) → Told (a ≤ b)
told-le a b = elim (cases_lt b a) [ inl more ↦ inr (λ le. absurd (omega (arith, more, le))) | inr le ↦ inl le ]

told-lt : (a b : ℕ) → Told (a < b)
told-lt a b = elim (cases_lt a b) [ inl lt ↦ inl lt | inr ge ↦ inr (λ lt. absurd (omega (arith, ge, lt))) ]

told-equal : (a b : ℕ) → Told (a ≡ b)
told-equal a b = told-like (λ h. omega (arith, h.0, h.1)) (λ (e : a ≡ b). (omega (arith, e), omega (arith, e))) (told-both (told-le a b) (told-le b a))

told-true : (b : Bool) → Told (b ≡ true)
told-true true = inl refl
told-true false = inr (λ e. false≢true e)

told-none : (o : Option ℕ) → Told (o ≡ None)
told-none None = inl refl
told-none (Some g) = inr (λ e. absurd cc)

told-some : {A : Type 0} (o : Option A) (P : A → Type 0) → ((x : A) → Told (P x)) → Told (IfSome o P)
told-some None P t = inl tt
told-some (Some x) P t = t x

-- below a number

told-below : (n : ℕ) (P : ℕ → Type 0) → ((k : ℕ) → Told (P k)) → Told ((k : ℕ) → k < n → P k)
told-below zero P t = inl (λ k lt. absurd (omega (arith, lt)))
told-below (suc n) P t = told-like (λ h. one_more h.0 h.1) (λ h. (λ k lt. h k (omega (arith, lt)), h n (omega arith))) (told-both (told-below n P t) (t n))
  where
    one_more : ((k : ℕ) → k < n → P k) → P n → (k : ℕ) → k < suc n → P k
    one_more h last k lt = elim (cases_lt k n) [ inl below ↦ h k below | inr at ↦ subst P (top k lt at) last ]
      where
        top : (k : ℕ) → k < suc n → n ≤ k → n ≡ k
        top k lt at = omega (arith, lt, at)

-- of the members of a list

told-in : {A : Type 0} (xs : List A) (P : A → Type 0) → ((x : A) → Told (P x)) → Told ((x : A) → IsIn x xs → P x)
told-in [] P t = inl (λ x i. absurd i)
told-in (y ∷ ys) P t = told-like (λ h. one_more h.0 h.1) (λ h. (h y (inl refl), λ x i. h x (inr i))) (told-both (t y) (told-in ys P t))
  where
    one_more : P y → ((x : _) → IsIn x ys → P x) → (x : _) → IsIn x (y ∷ ys) → P x
    one_more first h x (inl e) = subst P e first
    one_more first h x (inr i) = h x i

-- of each place of a list

told-kth : {A : Type 0} (xs : List A) (P : ℕ → A → Type 0) → ((k : ℕ) (x : A) → Told (P k x)) → Told ((k : ℕ) → IfSome (slice_get xs k) (P k))
told-kth [] P t = inl (λ k. tt)
told-kth (y ∷ ys) P t = told-like (λ h. one_more h.0 h.1) (λ h. (h 0, λ k. h (suc k))) (told-both (t 0 y) (told-kth ys (λ k. P (suc k)) (λ k. t (suc k))))
  where
    one_more : P 0 y → ((k : ℕ) → IfSome (slice_get ys k) (P (suc k))) → (k : ℕ) → IfSome (slice_get (y ∷ ys) k) (P k)
    one_more first h zero = first
    one_more first h (suc k) = h k

told-each : (P : Act → Option Timed → Type 0) (c : List Timed) → ((a : Act) (o : Option Timed) → Told (P a o)) → (seen : ℕ → ℕ) (xs : List Act) → Told (EachWith P c seen xs)
told-each P c t seen [] = inl tt
told-each P c t seen (x ∷ xs) = told-both (t x (slice_get (commits_by x.action c) (seen x.action))) (told-each P c t (bumped x.action seen) xs)

module _ (p : Problem) (l : Limits) (now : ℕ) (commits : List Timed) (w : List Mark) (x : Schedule) where
  told-time : (a : Act) (o : Option Timed) → Told (IsOnTime x now a o)
  told-time a None = told-le now (x.tick a.opens)
  told-time a (Some c) = told-both (told-equal (x.tick a.opens) c.start) (told-equal (finish x a) (c.start + c.length))

  told-length : (a : Act) → Told (IsInLength p l x a)
  told-length a =
      told-like (λ h. record { forward = h.0; allowed = h.1.0; within = h.1.1 }) (λ (h : IsInLength p l x a). (h.forward, (h.allowed, h.within)))
      (told-both (told-le (x.tick a.opens) (finish x a)) (told-both (told-true (in_range p a.action (finish x a - x.tick a.opens))) (told-le (finish x a) l.horizon)))

  abbrev Rises : Type 0
  Rises = (g : ℕ) → suc g < groups w → x.tick g < x.tick (suc g)

  told-rises : Told Rises
  told-rises = told-like (λ h g lt. h g (omega (arith, lt))) (λ h g lt. h g (omega (arith, lt))) (told-below (groups w - 1) (λ g. x.tick g < x.tick (suc g)) (λ g. told-lt (x.tick g) (x.tick (suc g))))

  abbrev Within : Type 0
  Within = (g : ℕ) → g < groups w → x.tick g ≤ l.horizon

  abbrev Placed : Type 0
  Placed = (k : ℕ) → IfSome (slice_get (timed_of w) k) (λ g. IfSome (slice_get p.timed k) (λ i. x.tick g ≡ i.tick))

  abbrev Before : Type 0
  Before = (g : ℕ) → g < groups w → IfSome (slice_get p.timed (length (timed_of w))) (λ i. x.tick g < i.tick)

  abbrev Lengths : Type 0
  Lengths = (a : Act) → IsIn a (acts_of p w) → IsInLength p l x a

  abbrev Open : Act → Type 0
  Open a = a.closes ≡ None → (g : ℕ) → g < groups w → x.tick g ≤ finish x a

  abbrev OnTime : Type 0
  OnTime = (a k : ℕ) → IfSome (slice_get (acts_by a (acts_of p w)) k) (λ act. IsOnTime x now act (slice_get (commits_by a commits) k))

  told-on-time : Told OnTime
  told-on-time =
      told-like (λ h. to_first (IsOnTime x now) commits (acts_of p w) (each-kth (IsOnTime x now) commits (λ a. 0) (acts_of p w) h))
      (λ h. kth-each (IsOnTime x now) commits (λ a. 0) (acts_of p w) (from_first (IsOnTime x now) commits (acts_of p w) h))
      (told-each (IsOnTime x now) commits told-time (λ a. 0) (acts_of p w))

  abbrev Late : Timed → Type 0
  Late c = (g : ℕ) → g < groups w → x.tick g ≤ c.start

  -- all that is asked of groups, and all that is asked of acts and commitments
  abbrev OfGroups : Type 0
  OfGroups = (Rises × Within) × (Placed × Before)

  abbrev OfActs : Type 0
  OfActs = (Lengths × ((a : Act) → IsIn a (acts_of p w) → Open a)) × (OnTime × ((c : Timed) → IsIn c (awaited (acts_of p w) commits) → Late c))

  told-groups : Told OfGroups
  told-groups =
      told-both
      (told-both told-rises (told-below (groups w) (λ g. x.tick g ≤ l.horizon) (λ g. told-le (x.tick g) l.horizon)))
      (told-both
      (told-kth (timed_of w) (λ k g. IfSome (slice_get p.timed k) (λ i. x.tick g ≡ i.tick)) (λ k g. told-some (slice_get p.timed k) (λ i. x.tick g ≡ i.tick) (λ i. told-equal (x.tick g) i.tick)))
      (told-below (groups w) (λ g. IfSome (slice_get p.timed (length (timed_of w))) (λ i. x.tick g < i.tick)) (λ g. told-some (slice_get p.timed (length (timed_of w))) (λ i. x.tick g < i.tick) (λ i. told-lt (x.tick g) i.tick))))

  told-acts : Told OfActs
  told-acts =
      told-both
      (told-both
      (told-in (acts_of p w) (IsInLength p l x) told-length)
      (told-in (acts_of p w) Open (λ a. told-if (told-none a.closes) (told-below (groups w) (λ g. x.tick g ≤ finish x a) (λ g. told-le (x.tick g) (finish x a))))))
      (told-both
      told-on-time
      (told-in (awaited (acts_of p w) commits) Late (λ c. told-below (groups w) (λ g. x.tick g ≤ c.start) (λ g. told-le (x.tick g) c.start))))

  pub told-schedule : Told (IsSchedule p l now commits w x)
  told-schedule = told-like pack unpack (told-both (told-both told-groups told-acts) (told-le (length (acts_of p w) + length (awaited (acts_of p w) commits)) l.actions))
    where
      pack : (OfGroups × OfActs) × (length (acts_of p w) + length (awaited (acts_of p w) commits) ≤ l.actions) → IsSchedule p l now commits w x
      pack h = record {
        rises = h.0.0.0.0;
        within = h.0.0.0.1;
        timed = h.0.0.1.0;
        before_next = h.0.0.1.1;
        lengths = h.0.1.0.0;
        open_late = λ a g i e lt. h.0.1.0.1 a i e g lt;
        on_time = h.0.1.1.0;
        late = λ c g i lt. h.0.1.1.1 c i g lt;
        few = h.1;
      }

      unpack : IsSchedule p l now commits w x → (OfGroups × OfActs) × (length (acts_of p w) + length (awaited (acts_of p w) commits) ≤ l.actions)
      unpack s = ((((s.rises, s.within), (s.timed, s.before_next)), ((s.lengths, λ a i e g lt. s.open_late a g i e lt), (s.on_time, λ c i g lt. s.late c g i lt))), s.few)
