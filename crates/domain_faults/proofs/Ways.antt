-- When a way up comes back, and when it does not.
use Rattle.std.proofs.Common.{◌≡◌, ℕ, zero, suc, ◌+◌, ◌-◌, ◌<◌, ◌≤◌, Bool, true, false, cond, ◌||◌, nat_eq, List, get_or, refl, ap, ◌∙◌, subst, arith}
use Rattle.std.proofs.lemmas.Bool.Decides.{nat_tests}
use Rattle.domain_faults.specs.Walks.{comes_to}

not_same : (a b : ℕ) → (a ≡ b → ⊥) → nat_eq a b ≡ false
not_same a b h = grind (arith, nat_tests)

is_same : (a b : ℕ) → a ≡ b → nat_eq a b ≡ true
is_same a b h = grind (arith, nat_tests)

passes : (z s x : Bool) → s ≡ false → x ≡ false → cond z false (s || x) ≡ false
passes true s x a b = refl
passes false true x a b = absurd (cc)
passes false false x a b = b

stops : (z s x : Bool) → z ≡ false → s ≡ true → cond z false (s || x) ≡ true
stops true s x a b = absurd (cc)
stops false true x a b = refl
stops false false x a b = absurd (cc)

goes : (z s x : Bool) → z ≡ false → x ≡ true → cond z false (s || x) ≡ true
goes true s x a b = absurd (cc)
goes false true x a b = refl
goes false false x a b = b

-- a way that stays where k is not
pub never : (above : List ℕ) (k : ℕ) (P : ℕ → Type 0) → (P k → ⊥) → ((j : ℕ) → P j → P (get_or above j 0)) → (n j : ℕ) → P j → comes_to above k n j ≡ false
never above k P out up zero j h = refl
never above k P out up (suc n) j h =
    passes (nat_eq j 0) (nat_eq j k) (comes_to above k n (get_or above j 0))
    (not_same j k (λ (e : j ≡ k). out (subst P e h)))
    (never above k P out up n (get_or above j 0) (up j h))

module _ (above places : List ℕ) (k e i len : ℕ)
    (start : get_or places 0 0 ≤ e)
    (only : (j : ℕ) → get_or places j 0 ≡ suc i → j ≡ k)
    (next : (j m : ℕ) → get_or places j 0 ≡ suc m → e ≤ m → suc m < len → get_or places (get_or above j 0) 0 ≡ suc (suc m)) where
  not_root : (j m : ℕ) → get_or places j 0 ≡ suc m → e ≤ m → j ≡ 0 → ⊥
  not_root j m p le z =
      let q : get_or places j 0 ≡ get_or places 0 0 = ap (λ (x : ℕ). get_or places x 0) z in
      omega (arith, q, p, start)

  -- from a place of the ring up to k's
  pub climbs : (n j m : ℕ) → get_or places j 0 ≡ suc m → e ≤ m → m ≤ i → i < len → i < n + m → comes_to above k n j ≡ true
  climbs zero j m p a b c d = absurd (omega arith)
  climbs (suc n) j m p a b c d = here (nat_eq m i) refl (climbs n (get_or above j 0) (suc m))
    where
      here : (t : Bool) → nat_eq m i ≡ t → (get_or places (get_or above j 0) 0 ≡ suc (suc m) → e ≤ suc m → suc m ≤ i → i < len → i < n + suc m → comes_to above k n (get_or above j 0) ≡ true) → comes_to above k (suc n) j ≡ true
      here true t rest =
          let q : m ≡ i = grind (arith, nat_tests) in
          stops (nat_eq j 0) (nat_eq j k) (comes_to above k n (get_or above j 0)) (not_same j 0 (not_root j m p a)) (is_same j k (only j (p ∙ ap suc q)))
      here false t rest =
          let q : m < i = grind (arith, nat_tests) in
          goes (nat_eq j 0) (nat_eq j k) (comes_to above k n (get_or above j 0)) (not_same j 0 (not_root j m p a))
          (rest (next j m p a (omega arith)) (omega arith) (omega arith) c (omega arith))

  -- from a place above k's round to k's
  pub rounds : (at : ℕ) → get_or places at 0 ≡ suc e → e ≤ i → i < len
      → ((j m : ℕ) → get_or places j 0 ≡ suc m → e ≤ m → suc m ≡ len → get_or above j 0 ≡ at)
      → (n j m : ℕ) → get_or places j 0 ≡ suc m → i < m → m < len → (len - m) + (i - e) < n → comes_to above k n j ≡ true
  rounds at r ei il last zero j m p a b d = absurd (omega arith)
  rounds at r ei il last (suc n) j m p a b d =
      goes (nat_eq j 0) (nat_eq j k) (comes_to above k n (get_or above j 0)) (not_same j 0 (not_root j m p (omega arith))) (here (nat_eq (suc m) len) refl (rounds at r ei il last n (get_or above j 0) (suc m)))
    where
      here : (t : Bool) → nat_eq (suc m) len ≡ t → (get_or places (get_or above j 0) 0 ≡ suc (suc m) → i < suc m → suc m < len → (len - suc m) + (i - e) < n → comes_to above k n (get_or above j 0) ≡ true) → comes_to above k n (get_or above j 0) ≡ true
      here true t rest =
          let q : suc m ≡ len = grind (arith, nat_tests) in
          let up : get_or above j 0 ≡ at = last j m p (omega arith) q in
          ap (comes_to above k n) up ∙ climbs n at e r (omega arith) ei il (omega arith)
      here false t rest =
          let q : suc m < len = grind (arith, nat_tests) in
          rest (next j m p (omega arith) q) (omega arith) q (omega arith)

  -- k comes back to itself
  pub returns : (at : ℕ) → get_or places at 0 ≡ suc e → e ≤ i → i < len
      → ((j m : ℕ) → get_or places j 0 ≡ suc m → e ≤ m → suc m ≡ len → get_or above j 0 ≡ at)
      → get_or places k 0 ≡ suc i → (n : ℕ) → len ≤ n → comes_to above k n (get_or above k 0) ≡ true
  returns at r ei il last p n d = here (nat_eq (suc i) len) refl
    where
      here : (t : Bool) → nat_eq (suc i) len ≡ t → comes_to above k n (get_or above k 0) ≡ true
      here true t =
          let q : suc i ≡ len = grind (arith, nat_tests) in
          ap (comes_to above k n) (last k i p ei q) ∙ climbs n at e r (omega arith) ei il (omega arith)
      here false t =
          let q : suc i < len = grind (arith, nat_tests) in
          rounds at r ei il last n (get_or above k 0) (suc i) (next k i p ei q) (omega arith) q (omega arith)
