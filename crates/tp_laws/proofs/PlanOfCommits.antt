-- The k-th commitment of an action is its k-th act in a possible plan, and what is awaited stands
-- behind the acts that are done.
use Rattle.std.proofs.Common.{◌≡◌, refl, sym, ap, subst, ◌∙◌, ℕ, zero, suc, ◌<◌, ◌≤◌, Bool, true, false, cond, eqb, List, [], ◌∷◌, Option, Some, None, ◌⊎◌, inl, inr, arith}
use Rattle.std.specs.Prelude.{IfSome, slice_get}
use Rattle.std.specs.List.{AllByRecursion as Each}
use Rattle.std.proofs.lemmas.Bool.{eqb-true, eqb-false, eq-eqb, ne_eqb}
use Rattle.tp_spec.specs.declared.plan.Timed.{Timed}
use Rattle.tp_spec.specs.Lists.{IsIn}
use Rattle.tp_spec.specs.Schedules.{commits_by}
use Rattle.tp_laws.proofs.EarlyLists.{each-in, each-map}
use Rattle.tp_laws.proofs.PlanOfBeside.{Pairs}

-- two acts, the first of which starts before the second where both are of one action
abbrev pub Later : Timed → Timed → Type 0
Later x y = x.action ≡ y.action → x.start < y.start

-- the acts of each action start one after another
abbrev pub OneByOne : List Timed → Type 0
OneByOne xs = Pairs Later xs

-- an act is a commitment, or starts at the clock or later and behind all commitments of its action
abbrev pub IsKept : ℕ → List Timed → Timed → Type 0
IsKept now commits x = IsIn x commits ⊎ ((now ≤ x.start) × Each (λ c. Later c x) commits)

-- what commitments ask of the acts of a plan
pub record Kept (now : ℕ) (commits acts : List Timed) : Type 0 where
  pub there : Each (λ c. IsIn c acts) commits
  pub later : Each (IsKept now commits) acts
  pub commits_rise : OneByOne commits
  pub acts_rise : OneByOne acts

-- the first act of an action taken out
abbrev pub without : ℕ → List Timed → List Timed
without a [] = []
without a (y ∷ ys) = cond (eqb y.action a) ys (y ∷ without a ys)

-- an act is the first one of its action
abbrev pub First : Timed → List Timed → Type 0
First c [] = ⊥
First c (y ∷ ys) = (y ≡ c) ⊎ ((y.action ≡ c.action → ⊥) × First c ys)

pub without-here : (y : Timed) (ys : List Timed) (a : ℕ) → y.action ≡ a → without a (y ∷ ys) ≡ ys
without-here y ys a e = ap (λ b. cond b ys (y ∷ without a ys)) (eq-eqb y.action a e)

pub without-past : (y : Timed) (ys : List Timed) (a : ℕ) → (y.action ≡ a → ⊥) → without a (y ∷ ys) ≡ y ∷ without a ys
without-past y ys a ne = ap (λ b. cond b ys (y ∷ without a ys)) (ne_eqb y.action a ne)

first-of : (now : ℕ) (c : Timed) (cs ys : List Timed) → Each (Later c) cs → IsIn c ys → Each (IsKept now (c ∷ cs)) ys → OneByOne ys → First c ys
first-of now c cs [] rise i later one = absurd i
first-of now c cs (y ∷ ys) rise (inl e) later one = inl e
first-of now c cs (y ∷ ys) rise (inr i) later one = inr (λ same. by_kept (each-in (Later y) ys c one.0 i same) same later.0, first-of now c cs ys rise i later.1 one.1)
  where
    by_kept : y.start < c.start → y.action ≡ c.action → IsKept now (c ∷ cs) y → ⊥
    by_kept lt same (inl (inl e)) = omega (arith, lt, ap (λ z. z.start) e)
    by_kept lt same (inl (inr k)) = omega (arith, lt, each-in (Later c) cs y rise k (sym same))
    by_kept lt same (inr k) = omega (arith, lt, k.1.0 (sym same))

-- another act stays
stays : (c d : Timed) (ys : List Timed) → First c ys → Later c d → IsIn d ys → IsIn d (without c.action ys)
stays c d [] f rise i = absurd i
stays c d (y ∷ ys) (inl e) rise (inl same) = let both : c ≡ d = sym e ∙ same in absurd (omega (arith, rise (ap (λ z. z.action) both), ap (λ z. z.start) both))
stays c d (y ∷ ys) (inl e) rise (inr i) = subst (IsIn d) (sym (without-here y ys c.action (ap (λ z. z.action) e))) i
stays c d (y ∷ ys) (inr f) rise (inl same) = subst (IsIn d) (sym (without-past y ys c.action f.0)) (inl same)
stays c d (y ∷ ys) (inr f) rise (inr i) = subst (IsIn d) (sym (without-past y ys c.action f.0)) (inr (stays c d ys f.1 rise i))

-- the acts that stay are kept by the other commitments
less-behind : (now : ℕ) (c : Timed) (cs : List Timed) (x : Timed) → Later c x → IsKept now (c ∷ cs) x → IsKept now cs x
less-behind now c cs x rise (inl (inl e)) = absurd (omega (arith, rise (ap (λ z. z.action) e), ap (λ z. z.start) e))
less-behind now c cs x rise (inl (inr i)) = inl i
less-behind now c cs x rise (inr k) = inr (k.0, k.1.1)

less-other : (now : ℕ) (c : Timed) (cs : List Timed) (x : Timed) → (x.action ≡ c.action → ⊥) → IsKept now (c ∷ cs) x → IsKept now cs x
less-other now c cs x ne (inl (inl e)) = absurd (ne (sym (ap (λ z. z.action) e)))
less-other now c cs x ne (inl (inr i)) = inl i
less-other now c cs x ne (inr k) = inr (k.0, k.1.1)

kept-less : (now : ℕ) (c : Timed) (cs ys : List Timed) → First c ys → OneByOne ys → Each (IsKept now (c ∷ cs)) ys → Each (IsKept now cs) (without c.action ys)
kept-less now c cs [] f one k = absurd f
kept-less now c cs (y ∷ ys) (inl e) one k =
    subst (Each (IsKept now cs)) (sym (without-here y ys c.action (ap (λ z. z.action) e)))
    (each-both ys (subst (λ z. Each (Later z) ys) e one.0) k.1)
  where
    each-both : (zs : List Timed) → Each (Later c) zs → Each (IsKept now (c ∷ cs)) zs → Each (IsKept now cs) zs
    each-both [] r k = tt
    each-both (z ∷ zs) r k = (less-behind now c cs z r.0 k.0, each-both zs r.1 k.1)
kept-less now c cs (y ∷ ys) (inr f) one k =
    subst (Each (IsKept now cs)) (sym (without-past y ys c.action f.0))
    (less-other now c cs y f.0 k.0, kept-less now c cs ys f.1 one.1 k.1)

pub each-without : (P : Timed → Type 0) (a : ℕ) (ys : List Timed) → Each P ys → Each P (without a ys)
each-without P a [] h = tt
each-without P a (y ∷ ys) h = by_test (each-without P a ys h.1) (eqb y.action a)
  where
    by_test : Each P (without a ys) → (b : Bool) → Each P (cond b ys (y ∷ without a ys))
    by_test ih true = h.1
    by_test ih false = (h.0, ih)

one-without : (a : ℕ) (ys : List Timed) → OneByOne ys → OneByOne (without a ys)
one-without a [] h = tt
one-without a (y ∷ ys) h = by_test (one-without a ys h.1) (eqb y.action a)
  where
    by_test : OneByOne (without a ys) → (b : Bool) → OneByOne (cond b ys (y ∷ without a ys))
    by_test ih true = h.1
    by_test ih false = (each-without (Later y) a ys h.0, ih)

-- the first commitment is the first act of its action ..
pub first-kept : (now : ℕ) (c : Timed) (cs ys : List Timed) → Kept now (c ∷ cs) ys → First c ys
first-kept now c cs ys k = first-of now c cs ys k.commits_rise.0 k.there.0 k.later k.acts_rise

-- .. and without both the others are kept
pub rest-kept : (now : ℕ) (c : Timed) (cs ys : List Timed) → Kept now (c ∷ cs) ys → Kept now cs (without c.action ys)
rest-kept now c cs ys k = record {
  there = all_stay cs k.commits_rise.0 k.there.1;
  later = kept-less now c cs ys (first-kept now c cs ys k) k.acts_rise k.later;
  commits_rise = k.commits_rise.1;
  acts_rise = one-without c.action ys k.acts_rise;
}
  where
    all_stay : (ds : List Timed) → Each (Later c) ds → Each (λ d. IsIn d ys) ds → Each (λ d. IsIn d (without c.action ys)) ds
    all_stay [] r h = tt
    all_stay (d ∷ ds) r h = (stays c d ys (first-kept now c cs ys k) r.0 h.0, all_stay ds r.1 h.1)

-- what an act owes to its commitment, or to the clock
abbrev pub Owes : ℕ → Timed → Option Timed → Type 0
Owes now y None = now ≤ y.start
Owes now y (Some c) = y ≡ c

kth : (P : Timed → Type 0) (ys : List Timed) (k : ℕ) → Each P ys → IfSome (slice_get ys k) P
kth P [] k h = tt
kth P (y ∷ ys) zero h = h.0
kth P (y ∷ ys) (suc k) h = kth P ys k h.1

each-by : (P : Timed → Type 0) (a : ℕ) (ys : List Timed) → Each P ys → Each P (commits_by a ys)
each-by P a [] h = tt
each-by P a (y ∷ ys) h = by_test (each-by P a ys h.1) (eqb y.action a)
  where
    by_test : Each P (commits_by a ys) → (b : Bool) → Each P (cond b (y ∷ commits_by a ys) (commits_by a ys))
    by_test ih true = (h.0, ih)
    by_test ih false = ih

by-here : (y : Timed) (ys : List Timed) (a : ℕ) → y.action ≡ a → commits_by a (y ∷ ys) ≡ y ∷ commits_by a ys
by-here y ys a e = ap (λ b. cond b (y ∷ commits_by a ys) (commits_by a ys)) (eq-eqb y.action a e)

by-past : (y : Timed) (ys : List Timed) (a : ℕ) → (y.action ≡ a → ⊥) → commits_by a (y ∷ ys) ≡ commits_by a ys
by-past y ys a ne = ap (λ b. cond b (y ∷ commits_by a ys) (commits_by a ys)) (ne_eqb y.action a ne)

by-first : (c : Timed) (ys : List Timed) → First c ys → commits_by c.action ys ≡ c ∷ commits_by c.action (without c.action ys)
by-first c [] f = absurd f
by-first c (y ∷ ys) (inl e) =
    by-here y ys c.action (ap (λ z. z.action) e)
    ∙ (λ i. e i ∷ commits_by c.action (sym (without-here y ys c.action (ap (λ z. z.action) e)) i))
by-first c (y ∷ ys) (inr f) =
    by-past y ys c.action f.0 ∙ by-first c ys f.1
    ∙ ap (λ zs. c ∷ zs) (sym (ap (commits_by c.action) (without-past y ys c.action f.0) ∙ by-past y (without c.action ys) c.action f.0))

by-other : (c : Timed) (a : ℕ) (ys : List Timed) → (c.action ≡ a → ⊥) → First c ys → commits_by a ys ≡ commits_by a (without c.action ys)
by-other c a [] ne f = absurd f
by-other c a (y ∷ ys) ne (inl e) =
    let same : y.action ≡ c.action = ap (λ z. z.action) e in
    by-past y ys a (λ h. ne (sym same ∙ h)) ∙ ap (commits_by a) (sym (without-here y ys c.action same))
by-other c a (y ∷ ys) ne (inr f) =
    by_test (eqb y.action a) (by-other c a ys ne f.1) ∙ ap (commits_by a) (sym (without-past y ys c.action f.0))
  where
    by_test : (b : Bool) → commits_by a ys ≡ commits_by a (without c.action ys) → cond b (y ∷ commits_by a ys) (commits_by a ys) ≡ cond b (y ∷ commits_by a (without c.action ys)) (commits_by a (without c.action ys))
    by_test true ih = ap (λ zs. y ∷ zs) ih
    by_test false ih = ih

pub on-time : (now : ℕ) (cs ys : List Timed) → Kept now cs ys → (a k : ℕ) → IfSome (slice_get (commits_by a ys) k) (λ y. Owes now y (slice_get (commits_by a cs) k))
on-time now [] ys kept a k = kth (λ y. now ≤ y.start) (commits_by a ys) k (each-by (λ y. now ≤ y.start) a ys (each-map (IsKept now []) (λ y. now ≤ y.start) ys none kept.later))
  where
    none : (y : Timed) → IsKept now [] y → now ≤ y.start
    none y (inl i) = absurd i
    none y (inr h) = h.0
on-time now (c ∷ cs) ys kept a k = by_test (eqb c.action a) refl (on-time now cs (without c.action ys) (rest-kept now c cs ys kept) a)
  where
    f : First c ys
    f = first-kept now c cs ys kept

    more : (xs zs : List Timed) (k : ℕ) → ((j : ℕ) → IfSome (slice_get xs j) (λ y. Owes now y (slice_get zs j))) → IfSome (slice_get (c ∷ xs) k) (λ y. Owes now y (slice_get (c ∷ zs) k))
    more xs zs zero h = refl
    more xs zs (suc k) h = h k

    by_test : (b : Bool) → eqb c.action a ≡ b → ((j : ℕ) → IfSome (slice_get (commits_by a (without c.action ys)) j) (λ y. Owes now y (slice_get (commits_by a cs) j)))
        → IfSome (slice_get (commits_by a ys) k) (λ y. Owes now y (slice_get (cond b (c ∷ commits_by a cs) (commits_by a cs)) k))
    by_test true e ih =
        let same : c.action ≡ a = eqb-true c.action a e in
        let split : commits_by a ys ≡ c ∷ commits_by a (without c.action ys) = subst (λ n. commits_by n ys ≡ c ∷ commits_by n (without c.action ys)) same (by-first c ys f) in
        subst (λ zs. IfSome (slice_get zs k) (λ y. Owes now y (slice_get (c ∷ commits_by a cs) k))) (sym split) (more (commits_by a (without c.action ys)) (commits_by a cs) k ih)
    by_test false e ih = subst (λ zs. IfSome (slice_get zs k) (λ y. Owes now y (slice_get (commits_by a cs) k))) (sym (by-other c a ys (eqb-false c.action a e) f)) (ih k)
