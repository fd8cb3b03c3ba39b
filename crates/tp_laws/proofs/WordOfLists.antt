-- Lists by recursion: what a test finds, pairs in either order, and the numbers from 0 on.
use Rattle.std.proofs.Common.{◌≡◌, refl, sym, ap, subst, ◌∙◌, ◌⊎◌, inl, inr, ℕ, zero, suc, ◌+◌, ◌<◌, ◌≤◌, Bool, true, false, cond, List, [], ◌∷◌, ◌++◌, map, length, arith, slice_get}
use Rattle.std.specs.List.{AllByRecursion as Each, list_any, list_all, filter, range_with_len}
use Rattle.std.proofs.lemmas.Bool.{and_parts, and_from, or_cases, cases_lt, or_left, or_right, false≢true}
use Rattle.tp_spec.specs.Lists.{IsIn, each_pair, each_next, some_and}
use Rattle.tp_laws.proofs.EarlyLists.{Rising, each-map, filter-map}

-- two tests that give each other are one
pub same-tests : (b c : Bool) → (b ≡ true → c ≡ true) → (c ≡ true → b ≡ true) → b ≡ c
same-tests true true f g = refl
same-tests true false f g = sym (f refl)
same-tests false true f g = g refl
same-tests false false f g = refl

pub any-in : {A : Type 0} (test : A → Bool) (xs : List A) → list_any test xs ≡ true → (x : A) × IsIn x xs × (test x ≡ true)
any-in test [] h = absurd (false≢true h)
any-in {A} test (y ∷ xs) h = elim (or_cases (test y) (list_any test xs) h) [
  | inl e ↦ (y, inl refl, e)
  | inr e ↦ let r = any-in test xs e in (r.0, inr r.1, r.2)
]

pub in-any : {A : Type 0} (test : A → Bool) (xs : List A) (x : A) → IsIn x xs → test x ≡ true → list_any test xs ≡ true
in-any test [] x i h = absurd i
in-any test (y ∷ xs) x (inl e) h = or_left (test y) (list_any test xs) (ap test e ∙ h)
in-any test (y ∷ xs) x (inr i) h = or_right (test y) (list_any test xs) (in-any test xs x i h)

pub all-in : {A : Type 0} (test : A → Bool) (xs : List A) (x : A) → list_all test xs ≡ true → IsIn x xs → test x ≡ true
all-in test [] x h i = absurd i
all-in test (y ∷ xs) x h (inl e) = ap test (sym e) ∙ (and_parts _ _ h).0
all-in test (y ∷ xs) x h (inr i) = all-in test xs x (and_parts _ _ h).1 i

pub in-all : {A : Type 0} (test : A → Bool) (xs : List A) → ((x : A) → IsIn x xs → test x ≡ true) → list_all test xs ≡ true
in-all test [] h = refl
in-all test (y ∷ xs) h = and_from _ _ (h y (inl refl)) (in-all test xs (λ x i. h x (inr i)))

pub in-each : {A : Type 0} (P : A → Type 0) (xs : List A) → ((x : A) → IsIn x xs → P x) → Each P xs
in-each P [] h = tt
in-each P (y ∷ xs) h = (h y (inl refl), in-each P xs (λ x i. h x (inr i)))

-- two members are one, or related in the order in which they stand
pub pair-in : {A : Type 0} (related : A → A → Bool) (xs : List A) (x y : A) → each_pair related xs ≡ true → IsIn x xs → IsIn y xs → (x ≡ y) ⊎ ((related x y ≡ true) ⊎ (related y x ≡ true))
pair-in related [] x y h i j = absurd i
pair-in related (z ∷ xs) x y h (inl e) (inl f) = inl (sym e ∙ f)
pair-in related (z ∷ xs) x y h (inl e) (inr j) = inr (inl (ap (λ w. related w y) (sym e) ∙ all-in (related z) xs y (and_parts _ _ h).0 j))
pair-in related (z ∷ xs) x y h (inr i) (inl f) = inr (inr (ap (λ w. related w x) (sym f) ∙ all-in (related z) xs x (and_parts _ _ h).0 i))
pair-in related (z ∷ xs) x y h (inr i) (inr j) = pair-in related xs x y (and_parts _ _ h).1 i j

pub filter-in : {A : Type 0} (test : A → Bool) (xs : List A) (x : A) → IsIn x xs → test x ≡ true → IsIn x (filter test xs)
filter-in test [] x i h = absurd i
filter-in test (y ∷ xs) x (inl e) h = subst (λ b. IsIn x (cond b (y ∷ filter test xs) (filter test xs))) (sym (ap test e ∙ h)) (inl e)
filter-in test (y ∷ xs) x (inr i) h = by_test (test y) (filter-in test xs x i h) where
  by_test : (b : Bool) → IsIn x (filter test xs) → IsIn x (cond b (y ∷ filter test xs) (filter test xs))
  by_test true r = inr r
  by_test false r = r

pub filter-passes : {A : Type 0} (test : A → Bool) (xs : List A) (x : A) → IsIn x (filter test xs) → test x ≡ true
filter-passes test [] x i = absurd i
filter-passes {A} test (y ∷ xs) x i = by_test (filter-passes test xs x) (test y) refl i where
  by_test : (IsIn x (filter test xs) → test x ≡ true) → (b : Bool) → test y ≡ b → IsIn x (cond b (y ∷ filter test xs) (filter test xs)) → test x ≡ true
  by_test ih true e (inl f) = ap test (sym f) ∙ e
  by_test ih true e (inr j) = ih j
  by_test ih false e j = ih j

-- what passes one of two tests that no element passes both
pub filter-split : {A : Type 0} (f g h : A → Bool) (xs : List A) → ((x : A) → cond (f x) 1 0 + cond (g x) 1 0 ≡ cond (h x) 1 0) → length (filter f xs) + length (filter g xs) ≡ length (filter h xs)
filter-split f g h [] e = omega arith
filter-split f g h (x ∷ xs) e = by_tests (filter-split f g h xs e) (f x) (g x) (h x) (e x) where
  by_tests : length (filter f xs) + length (filter g xs) ≡ length (filter h xs) → (a b c : Bool) → cond a 1 0 + cond b 1 0 ≡ cond c 1 0 → length (cond a (x ∷ filter f xs) (filter f xs)) + length (cond b (x ∷ filter g xs) (filter g xs)) ≡ length (cond c (x ∷ filter h xs) (filter h xs))
  by_tests ih true true true l = absurd (omega (arith, l))
  by_tests ih true true false l = absurd (omega (arith, l))
  by_tests ih true false true l = omega (arith, ih)
  by_tests ih true false false l = absurd (omega (arith, l))
  by_tests ih false true true l = omega (arith, ih)
  by_tests ih false true false l = absurd (omega (arith, l))
  by_tests ih false false true l = absurd (omega (arith, l))
  by_tests ih false false false l = ih

pub range-in : (k a n : ℕ) → a ≤ k → k < a + n → IsIn k (range_with_len a n)
range-in k a zero le lt = absurd (omega (arith, le, lt))
range-in k a (suc n) le lt = elim (cases_lt a k) [
  | inl b ↦ inr (range-in k (a + 1) n (omega (arith, b)) (omega (arith, lt)))
  | inr b ↦ inl (omega (arith, b, le))
]

pub in-range : (k a n : ℕ) → IsIn k (range_with_len a n) → (a ≤ k) × (k < a + n)
in-range k a zero i = absurd i
in-range k a (suc n) (inl e) = (omega (arith, e), omega (arith, e))
in-range k a (suc n) (inr i) = let r = in-range k (a + 1) n i in (omega (arith, r.0), omega (arith, r.1))

pub range-shift : (a n : ℕ) → range_with_len (a + 1) n ≡ map suc (range_with_len a n)
range-shift a zero = refl
range-shift a (suc n) = let e : a + 1 ≡ suc a = omega arith in λ i. e i ∷ range-shift (a + 1) n i

length-sucs : (ks : List ℕ) → length (map suc ks) ≡ length ks
length-sucs [] = refl
length-sucs (k ∷ ks) = ap suc (length-sucs ks)

-- how many pass, by their places
pub count-places : {A : Type 0} (test : A → Bool) (xs : List A) → length (filter (λ k. some_and (slice_get xs k) test) (range_with_len 0 (length xs))) ≡ length (filter test xs)
count-places test [] = refl
count-places {A} test (x ∷ xs) = by_test (test x)
    (ap (λ ks. length (filter (λ k. some_and (slice_get (x ∷ xs) k) test) ks)) (range-shift 0 (length xs))
    ∙ ap length (filter-map (λ k. some_and (slice_get (x ∷ xs) k) test) suc (range_with_len 0 (length xs)))
    ∙ length-sucs (filter (λ k. some_and (slice_get xs k) test) (range_with_len 0 (length xs)))
    ∙ count-places test xs)
  where
    by_test : (b : Bool) → length (filter (λ k. some_and (slice_get (x ∷ xs) k) test) (range_with_len 1 (length xs))) ≡ length (filter test xs)
        → length (cond b (0 ∷ filter (λ k. some_and (slice_get (x ∷ xs) k) test) (range_with_len 1 (length xs))) (filter (λ k. some_and (slice_get (x ∷ xs) k) test) (range_with_len 1 (length xs)))) ≡ length (cond b (x ∷ filter test xs) (filter test xs))
    by_test true rest = ap suc rest
    by_test false rest = rest

-- where something is, there is a place
pub some-below : {A : Type 0} (test : A → Bool) (xs : List A) (k : ℕ) → some_and (slice_get xs k) test ≡ true → k < length xs
some-below test [] k h = absurd (false≢true h)
some-below test (x ∷ xs) zero h = omega arith
some-below test (x ∷ xs) (suc k) h = omega (arith, some-below test xs k h)

-- neighbours that rise make a list that rises
pub next-rises : {A : Type 0} (lt : A → A → Bool) (xs : List A) → ((x y z : A) → lt x y ≡ true → lt y z ≡ true → lt x z ≡ true) → each_next lt xs ≡ true → Rising lt xs
next-rises lt [] tr h = tt
next-rises lt (x ∷ []) tr h = (tt, tt)
next-rises lt (x ∷ y ∷ xs) tr h =
    let first = (and_parts _ _ h).0 in
    let rest : Rising lt (y ∷ xs) = next-rises lt (y ∷ xs) tr (and_parts _ _ h).1 in
    ((first, each-map (λ z. lt y z ≡ true) (λ z. lt x z ≡ true) xs (λ z k. tr x y z first k) rest.0), rest)

-- around one element of a list that rises
pub rising-around : {A : Type 0} (lt : A → A → Bool) (u : List A) (x : A) (v : List A) → Rising lt (u ++ x ∷ v) → Each (λ y. lt y x ≡ true) u × Each (λ y. lt x y ≡ true) v
rising-around lt [] x v r = (tt, r.0)
rising-around {A} lt (y ∷ u) x v r = let rest = rising-around lt u x v r.1 in ((middle u r.0, rest.0), rest.1) where
  middle : (u : List A) → Each (λ z. lt y z ≡ true) (u ++ x ∷ v) → lt y x ≡ true
  middle [] h = h.0
  middle (z ∷ u) h = middle u h.1

-- two lists that rise, the first below the second
pub rising-append : {A : Type 0} (lt : A → A → Bool) (u v : List A) → Rising lt u → Rising lt v → ((x y : A) → IsIn x u → IsIn y v → lt x y ≡ true) → Rising lt (u ++ v)
rising-append lt [] v r s h = s
rising-append {A} lt (x ∷ u) v r s h = (above u r.0, rising-append lt u v r.1 s (λ y z i j. h y z (inr i) j)) where
  above : (u : List A) → Each (λ y. lt x y ≡ true) u → Each (λ y. lt x y ≡ true) (u ++ v)
  above [] k = in-each (λ y. lt x y ≡ true) v (λ y j. h x y (inl refl) j)
  above (y ∷ u) k = (k.0, above u k.1)
