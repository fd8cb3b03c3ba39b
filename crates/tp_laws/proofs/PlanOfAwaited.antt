-- What is awaited after the first acts of a possible plan stands among the others.
use Rattle.std.proofs.Common.{◌≡◌, refl, sym, ap, subst, ◌∙◌, ℕ, suc, ◌≤◌, Bool, true, false, cond, eqb, List, [], ◌∷◌, ◌++◌, length, inl, inr, arith}
use Rattle.std.specs.Prelude.{◌==◌, ◌||◌, if◌then◌else◌}
use Rattle.std.specs.List.{AllByRecursion as Each, list_any}
use Rattle.std.proofs.lemmas.Bool.{eq-eqb, false≢true}
use Rattle.tp_spec.specs.declared.plan.Timed.{Timed}
use Rattle.tp_spec.specs.Words.{Act}
use Rattle.tp_spec.specs.Schedules.{awaited, without_first}
use Rattle.tp_laws.proofs.PlanOfBeside.{Beside}
use Rattle.tp_laws.proofs.PlanOfCommits.{Kept, First, without, first-kept, rest-kept, without-here, without-past, each-without}

abbrev pub OfOne : Act → Timed → Type 0
OfOne x y = x.action ≡ y.action

took : (a : ℕ) (xs : List Act) (done rest : List Timed) → Beside OfOne xs done → list_any (λ x. x.action == a) xs ≡ true
    → (without a (done ++ rest) ≡ without a done ++ rest) × Beside OfOne (without_first a xs) (without a done)
took a [] [] rest b e = absurd (false≢true e)
took a [] (y ∷ ys) rest b e = absurd b
took a (x ∷ xs) [] rest b e = absurd b
took a (x ∷ xs) (y ∷ ys) rest b e = by_test (eqb x.action a) (eqb y.action a) (ap (λ n. eqb n a) b.0) (λ h. took a xs ys rest b.1 h) e
  where
    by_test : (s t : Bool) → s ≡ t
        → (list_any (λ x. x.action == a) xs ≡ true → (without a (ys ++ rest) ≡ without a ys ++ rest) × Beside OfOne (without_first a xs) (without a ys))
        → (s || list_any (λ x. x.action == a) xs) ≡ true
        → (cond t (ys ++ rest) (y ∷ without a (ys ++ rest)) ≡ cond t ys (y ∷ without a ys) ++ rest) × Beside OfOne (if s then xs else x ∷ without_first a xs) (cond t ys (y ∷ without a ys))
    by_test true true same ih h = (refl, b.1)
    by_test true false same ih h = absurd (false≢true (sym same))
    by_test false true same ih h = absurd (false≢true same)
    by_test false false same ih h = let r = ih h in (ap (λ zs. y ∷ zs) r.0, (b.0, r.1))

left : (c : Timed) (xs : List Act) (done rest : List Timed) → Beside OfOne xs done → list_any (λ x. x.action == c.action) xs ≡ false → First c (done ++ rest)
    → First c rest × (without c.action (done ++ rest) ≡ done ++ without c.action rest)
left c [] [] rest b e f = (f, refl)
left c [] (y ∷ ys) rest b e f = absurd b
left c (x ∷ xs) [] rest b e f = absurd b
left c (x ∷ xs) (y ∷ ys) rest b e (inl same) =
    absurd (not_first (eqb x.action c.action) (eq-eqb x.action c.action (b.0 ∙ ap (λ z. z.action) same)) e)
  where
    not_first : (s : Bool) → s ≡ true → (s || list_any (λ z. z.action == c.action) xs) ≡ false → ⊥
    not_first true h k = false≢true (sym k)
    not_first false h k = false≢true h
left c (x ∷ xs) (y ∷ ys) rest b e (inr f) =
    let r = left c xs ys rest b.1 (others (eqb x.action c.action) e) f.1 in
    (r.0, without-past y (ys ++ rest) c.action f.0 ∙ ap (λ zs. y ∷ zs) r.1)
  where
    others : (s : Bool) → (s || list_any (λ z. z.action == c.action) xs) ≡ false → list_any (λ z. z.action == c.action) xs ≡ false
    others true k = absurd (false≢true (sym k))
    others false k = k

one-less : (c : Timed) (ys : List Timed) → First c ys → length ys ≡ suc (length (without c.action ys))
one-less c [] f = absurd f
one-less c (y ∷ ys) (inl e) = ap (λ zs. suc (length zs)) (sym (without-here y ys c.action (ap (λ z. z.action) e)))
one-less c (y ∷ ys) (inr f) = ap suc (one-less c ys f.1) ∙ ap (λ zs. suc (length zs)) (sym (without-past y ys c.action f.0))

-- what is awaited has what all acts behind the done ones have, and is no more than they are
pub record Behind (P : Timed → Type 0) (n : ℕ) (cs : List Timed) : Type 0 where
  pub each : Each P cs
  pub few : length cs ≤ n

at-first : (P : Timed → Type 0) (c : Timed) (ys : List Timed) → First c ys → Each P ys → P c
at-first P c [] f h = absurd f
at-first P c (y ∷ ys) (inl e) h = subst P e h.0
at-first P c (y ∷ ys) (inr f) h = at-first P c ys f.1 h.1

pub awaited-behind : (P : Timed → Type 0) (now : ℕ) (cs : List Timed) (xs : List Act) (done rest : List Timed) → Kept now cs (done ++ rest) → Beside OfOne xs done → Each P rest → Behind P (length rest) (awaited xs cs)
awaited-behind P now [] xs done rest kept b h = record { each = tt; few = omega arith }
awaited-behind P now (c ∷ cs) xs done rest kept b h =
    by_test (list_any (λ x. x.action == c.action) xs) refl (λ d r. awaited-behind P now cs (without_first c.action xs) d r) (λ d r. awaited-behind P now cs xs d r)
  where
    others : Kept now cs (without c.action (done ++ rest))
    others = rest-kept now c cs (done ++ rest) kept

    by_test : (t : Bool) → list_any (λ x. x.action == c.action) xs ≡ t
        → ((d r : List Timed) → Kept now cs (d ++ r) → Beside OfOne (without_first c.action xs) d → Each P r → Behind P (length r) (awaited (without_first c.action xs) cs))
        → ((d r : List Timed) → Kept now cs (d ++ r) → Beside OfOne xs d → Each P r → Behind P (length r) (awaited xs cs))
        → Behind P (length rest) (if t then awaited (without_first c.action xs) cs else c ∷ awaited xs cs)
    by_test true e one other =
        let s = took c.action xs done rest b e in
        one (without c.action done) rest (subst (Kept now cs) s.0 others) s.1 h
    by_test false e one other =
        let s = left c xs done rest b e (first-kept now c cs (done ++ rest) kept) in
        let ih = other done (without c.action rest) (subst (Kept now cs) s.1 others) b (each-without P c.action rest h) in
        record { each = (at-first P c rest s.0 h, ih.each); few = omega (arith, ih.few, one-less c rest s.0) }
