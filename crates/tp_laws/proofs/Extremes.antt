-- Of finitely many vectors within a bound, whose good ones can be told and are joined by an operation, the extreme good one.
use Rattle.std.proofs.Common.{◌≡◌, refl, sym, subst, ℕ, zero, suc, ◌<◌, ◌≤◌, ◌⊎◌, inl, inr, Bool, true, false, cond, eqb, arith}
use Rattle.std.proofs.lemmas.Bool.{cases_lt, eqb-true, eqb-false}

-- a vector with one component put in
abbrev put : ℕ → ℕ → (ℕ → ℕ) → ℕ → ℕ
put m k f i = cond (eqb i m) k (f i)

-- Vectors count by their first `size` components; `R a b` says that b is as far as a.
module _ (size top : ℕ) (op : ℕ → ℕ → ℕ) (R : ℕ → ℕ → Type 0)
    (self : (a : ℕ) → R a a) (left : (a b : ℕ) → R a (op a b)) (right : (a b : ℕ) → R b (op a b)) (follows : (a b c : ℕ) → R a b → R b c → R a c)
    (Good : (ℕ → ℕ) → Type 0) (told : (f : ℕ → ℕ) → Good f ⊎ (¬ (Good f)))
    (same : (f g : ℕ → ℕ) → ((i : ℕ) → i < size → g i ≡ f i) → Good f → Good g)
    (join : (f g : ℕ → ℕ) → Good f → Good g → Good (λ i. op (f i) (g i))) where
  abbrev pub IsPast : (ℕ → ℕ) → (ℕ → ℕ) → Type 0
  IsPast f g = (i : ℕ) → i < size → R (f i) (g i)

  -- a vector as f from component m on, and within the bound before it
  pub record Varies (m : ℕ) (f g : ℕ → ℕ) : Type 0 where
    pub fixed : (i : ℕ) → m ≤ i → i < size → g i ≡ f i
    pub within : (i : ℕ) → i < m → g i ≤ top

  -- a good vector past x, and past all good ones that may vary before m
  pub record Extreme (m : ℕ) (f x : ℕ → ℕ) : Type 0 where
    pub vector : ℕ → ℕ
    pub good : Good vector
    pub start : IsPast x vector
    pub past : (g : ℕ → ℕ) → Varies m f g → Good g → IsPast g vector

  -- the same for those whose component m is below k
  record ExtremeTo (m k : ℕ) (f x : ℕ → ℕ) : Type 0 where
    vector : ℕ → ℕ
    good : Good vector
    start : IsPast x vector
    past : (g : ℕ → ℕ) → Varies (suc m) f g → g m < k → Good g → IsPast g vector

  further : (f g h : ℕ → ℕ) → IsPast f g → IsPast g h → IsPast f h
  further f g h a b i lt = follows (f i) (g i) (h i) (a i lt) (b i lt)

  put-fixed : (m k : ℕ) (f g : ℕ → ℕ) → Varies (suc m) f g → g m ≡ k → Varies m (put m k f) g
  put-fixed m k f g v e = record {
    fixed = λ i le lt. by_test i le lt (eqb i m) refl;
    within = λ i lt. v.within i (omega (arith, lt));
  }
    where
      by_test : (i : ℕ) → m ≤ i → i < size → (b : Bool) → eqb i m ≡ b → g i ≡ cond b k (f i)
      by_test i le lt true t = subst (λ j. g j ≡ k) (sym (eqb-true i m t)) e
      by_test i le lt false t = v.fixed i (apart i le (eqb-false i m t)) lt
        where
          apart : (i : ℕ) → m ≤ i → ¬ (i ≡ m) → suc m ≤ i
          apart i le n = omega (arith, le, n)

  values : (m : ℕ) → ((f x : ℕ → ℕ) → Good x → Extreme m f x) → (k : ℕ) (f x : ℕ → ℕ) → Good x → ExtremeTo m k f x
  values m ih zero f x s = record { vector = x; good = s; start = λ i lt. self (x i); past = λ g v below. absurd (omega (arith, below)) }
  values m ih (suc k) f x s =
      let e : ExtremeTo m k f x = values m ih k f x s in
      let h : Extreme m (put m k f) e.vector = ih (put m k f) e.vector e.good in
      record {
        vector = h.vector;
        good = h.good;
        start = further x e.vector h.vector e.start h.start;
        past = λ g v below good. elim (cases_lt (g m) k) [
          | inl lower ↦ further g e.vector h.vector (e.past g v lower good) h.start
          | inr at ↦ h.past g (put-fixed m k f g v (omega (arith, at, below))) good
        ];
      }

  pub sweep : (m : ℕ) (f x : ℕ → ℕ) → Good x → Extreme m f x
  sweep zero f x s = elim (told f) [
    | inl good ↦ record {
      vector = λ i. op (x i) (f i);
      good = join x f s good;
      start = λ i lt. left (x i) (f i);
      past = λ g v h i lt. subst (λ n. R n (op (x i) (f i))) (sym (v.fixed i (omega arith) lt)) (right (x i) (f i));
    }
    | inr bad ↦ record {
      vector = x;
      good = s;
      start = λ i lt. self (x i);
      past = λ g v h. absurd (bad (same g f (λ i lt. sym (v.fixed i (omega arith) lt)) h));
    }
  ]
  sweep (suc m) f x s =
      let e : ExtremeTo m (suc top) f x = values m (sweep m) (suc top) f x s in
      record {
        vector = e.vector;
        good = e.good;
        start = e.start;
        past = λ g v h. e.past g v (below g v) h;
      }
    where
      below : (g : ℕ → ℕ) → Varies (suc m) f g → g m < suc top
      below g v = let le : g m ≤ top = v.within m (omega arith) in omega (arith, le)
