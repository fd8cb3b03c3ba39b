-- Least ticks raised and greatest ticks lowered by bounds, and what ticks between them keep.
use Rattle.std.proofs.Common.{◌≡◌, ℕ, ◌<◌, ◌≤◌, ◌^◌, List, [], ◌∷◌, length, get_or, set, refl, sym, subst, arith, ◌∙◌, inl, inr}
use Rattle.std.specs.Prelude.{max, min}
use Rattle.std.specs.List.{AllByRecursion as Each}
use Rattle.std.proofs.lemmas.Bool.{cases_eq}
use Rattle.std.proofs.lemmas.List.{get_or-set_same, get_or-set_other, length-set}
use Rattle.tick_network.specs.Nets.{AreSmall}
use Rattle.word_rows.specs.declared.bound.Bound.{Bound}
use Rattle.word_network.specs.Nets.{raised, lowered}

-- what holds at each place after a write
set_each : (P : ℕ → ℕ → Type 0) (xs : List ℕ) (i n : ℕ) → i < length xs → P i n → ((v : ℕ) → P v (get_or xs v 0)) → (v : ℕ) → P v (get_or (set xs i n) v 0)
set_each P xs i n b h k v = elim (cases_eq v i) [
  | inl e ↦ subst (λ (j : ℕ). P j (get_or (set xs i n) j 0)) (sym e) (subst (P i) (sym (get_or-set_same xs i n 0 b)) h)
  | inr e ↦ subst (P v) (sym (get_or-set_other xs i v n 0 e)) (k v)
]

-- and what held before
set_here : (P : ℕ → ℕ → Type 0) (xs : List ℕ) (i n : ℕ) → i < length xs → ((v : ℕ) → P v (get_or (set xs i n) v 0)) → P i n
set_here P xs i n b h = subst (P i) (get_or-set_same xs i n 0 b) (h i)

set_back : (P : ℕ → ℕ → Type 0) (xs : List ℕ) (i n : ℕ) → P i (get_or xs i 0) → ((v : ℕ) → P v (get_or (set xs i n) v 0)) → (v : ℕ) → P v (get_or xs v 0)
set_back P xs i n here h v = elim (cases_eq v i) [
  | inl e ↦ subst (λ (j : ℕ). P j (get_or xs j 0)) (sym e) here
  | inr e ↦ subst (P v) (get_or-set_other xs i v n 0 e) (h v)
]

pub length-raised : (at : List ℕ) (bs : List Bound) → length (raised at bs) ≡ length at
length-raised at [] = refl
length-raised at (b ∷ bs) = length-raised (set at b.variable (max (get_or at b.variable 0) (min b.tick (2 ^ 41)))) bs ∙ length-set at b.variable (max (get_or at b.variable 0) (min b.tick (2 ^ 41)))

pub length-lowered : (at : List ℕ) (bs : List Bound) → length (lowered at bs) ≡ length at
length-lowered at [] = refl
length-lowered at (b ∷ bs) = length-lowered (set at b.variable (min (get_or at b.variable 0) b.tick)) bs ∙ length-set at b.variable (min (get_or at b.variable 0) b.tick)

pub raised-small : (n : ℕ) (at : List ℕ) (bs : List Bound) → length at ≡ n → Each (λ b. b.variable < n) bs → AreSmall at → AreSmall (raised at bs)
raised-small n at [] e inside h = h
raised-small n at (b ∷ bs) e inside h =
    let m : ℕ = max (get_or at b.variable 0) (min b.tick (2 ^ 41)) in
    let here : get_or at b.variable 0 ≤ 2 ^ 41 = h b.variable in
    raised-small n (set at b.variable m) bs (length-set at b.variable m ∙ e) inside.1
    (set_each (λ v k. k ≤ 2 ^ 41) at b.variable m (omega (arith, inside.0)) (omega arith) h)

pub lowered-small : (n : ℕ) (at : List ℕ) (bs : List Bound) → length at ≡ n → Each (λ b. b.variable < n) bs → AreSmall at → AreSmall (lowered at bs)
lowered-small n at [] e inside h = h
lowered-small n at (b ∷ bs) e inside h =
    let m : ℕ = min (get_or at b.variable 0) b.tick in
    let here : get_or at b.variable 0 ≤ 2 ^ 41 = h b.variable in
    lowered-small n (set at b.variable m) bs (length-set at b.variable m ∙ e) inside.1
    (set_each (λ v k. k ≤ 2 ^ 41) at b.variable m (omega (arith, inside.0)) (omega arith) h)

abbrev pub IsAbove : (ℕ → ℕ) → ℕ → List ℕ → Type 0
IsAbove t n xs = (v : ℕ) → v < n → get_or xs v 0 ≤ t v

abbrev pub IsBelow : (ℕ → ℕ) → ℕ → List ℕ → Type 0
IsBelow t n xs = (v : ℕ) → v < n → t v ≤ get_or xs v 0

pub raise-to : (t : ℕ → ℕ) (n : ℕ) (at : List ℕ) (bs : List Bound) → length at ≡ n → Each (λ b. b.variable < n) bs → IsAbove t n at → Each (λ b. b.tick ≤ t b.variable) bs → IsAbove t n (raised at bs)
raise-to t n at [] e inside h lows = h
raise-to t n at (b ∷ bs) e inside h lows =
    let m : ℕ = max (get_or at b.variable 0) (min b.tick (2 ^ 41)) in
    let here : get_or at b.variable 0 ≤ t b.variable = h b.variable inside.0 in
    let low : b.tick ≤ t b.variable = lows.0 in
    raise-to t n (set at b.variable m) bs (length-set at b.variable m ∙ e) inside.1
    (set_each (λ v k. v < n → k ≤ t v) at b.variable m (omega (arith, inside.0)) (λ _. omega arith) h) lows.1

pub record Rises (t : ℕ → ℕ) (n : ℕ) (at : List ℕ) (bs : List Bound) : Type 0 where
  pub above : IsAbove t n at
  pub lows : Each (λ b. b.tick ≤ t b.variable) bs

pub raise-from : (t : ℕ → ℕ) (n : ℕ) (at : List ℕ) (bs : List Bound) → length at ≡ n → Each (λ b. b.variable < n) bs → ((v : ℕ) → v < n → t v ≤ 2 ^ 40) → IsAbove t n (raised at bs) → Rises t n at bs
raise-from t n at [] e inside within h = record { above = h; lows = tt }
raise-from t n at (b ∷ bs) e inside within h =
    let x : ℕ = get_or at b.variable 0 in
    let m : ℕ = max x (min b.tick (2 ^ 41)) in
    let ih = raise-from t n (set at b.variable m) bs (length-set at b.variable m ∙ e) inside.1 within h in
    let there : b.variable < n = inside.0 in
    let most : t b.variable ≤ 2 ^ 40 = within b.variable there in
    let here : m ≤ t b.variable = set_here (λ v k. v < n → k ≤ t v) at b.variable m (omega arith) ih.above there in
    let both : (x ≤ t b.variable) × (b.tick ≤ t b.variable) = parts x b.tick (t b.variable) here most in
    record { above = set_back (λ v k. v < n → k ≤ t v) at b.variable m (λ _. both.0) ih.above; lows = (both.1, ih.lows) }
  where
    parts : (x y s : ℕ) → max x (min y (2 ^ 41)) ≤ s → s ≤ 2 ^ 40 → (x ≤ s) × (y ≤ s)
    parts x y s h k = (omega arith, omega arith)

pub lower-to : (t : ℕ → ℕ) (n : ℕ) (at : List ℕ) (bs : List Bound) → length at ≡ n → Each (λ b. b.variable < n) bs → IsBelow t n at → Each (λ b. t b.variable ≤ b.tick) bs → IsBelow t n (lowered at bs)
lower-to t n at [] e inside h highs = h
lower-to t n at (b ∷ bs) e inside h highs =
    let m : ℕ = min (get_or at b.variable 0) b.tick in
    let here : t b.variable ≤ get_or at b.variable 0 = h b.variable inside.0 in
    let high : t b.variable ≤ b.tick = highs.0 in
    lower-to t n (set at b.variable m) bs (length-set at b.variable m ∙ e) inside.1
    (set_each (λ v k. v < n → t v ≤ k) at b.variable m (omega (arith, inside.0)) (λ _. omega arith) h) highs.1

pub record Falls (t : ℕ → ℕ) (n : ℕ) (at : List ℕ) (bs : List Bound) : Type 0 where
  pub below : IsBelow t n at
  pub highs : Each (λ b. t b.variable ≤ b.tick) bs

pub lower-from : (t : ℕ → ℕ) (n : ℕ) (at : List ℕ) (bs : List Bound) → length at ≡ n → Each (λ b. b.variable < n) bs → IsBelow t n (lowered at bs) → Falls t n at bs
lower-from t n at [] e inside h = record { below = h; highs = tt }
lower-from t n at (b ∷ bs) e inside h =
    let x : ℕ = get_or at b.variable 0 in
    let m : ℕ = min x b.tick in
    let ih = lower-from t n (set at b.variable m) bs (length-set at b.variable m ∙ e) inside.1 h in
    let there : b.variable < n = inside.0 in
    let here : t b.variable ≤ m = set_here (λ v k. v < n → t v ≤ k) at b.variable m (omega arith) ih.below there in
    let both : (t b.variable ≤ x) × (t b.variable ≤ b.tick) = parts x b.tick (t b.variable) here in
    record { below = set_back (λ v k. v < n → t v ≤ k) at b.variable m (λ _. both.0) ih.below; highs = (both.1, ih.highs) }
  where
    parts : (x y s : ℕ) → s ≤ min x y → (s ≤ x) × (s ≤ y)
    parts x y s h = (omega arith, omega arith)
