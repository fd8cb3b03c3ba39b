-- Lists by recursion: members, and lists that rise.
use Rattle.std.proofs.Common.{◌≡◌, refl, ap, subst, ◌∙◌, ℕ, zero, suc, map, ◌+◌, ◌<◌, Bool, true, false, List, [], ◌∷◌, ◌++◌, inl, inr, arith, nat_lt, cond}
use Rattle.std.specs.List.{AllByRecursion as Each, filter, list_all, range_with_len}
use Rattle.std.proofs.lemmas.Bool.{and_parts, and_from, lt-ltb}
use Rattle.tp_spec.specs.Lists.{IsIn, each_pair, each_next}

-- what holds of each holds of one
pub each-in : {A : Type 0} (P : A → Type 0) (xs : List A) (x : A) → Each P xs → IsIn x xs → P x
each-in P [] x h i = absurd i
each-in P (y ∷ xs) x h (inl e) = subst P e h.0
each-in P (y ∷ xs) x h (inr i) = each-in P xs x h.1 i

pub each-map : {A : Type 0} (P Q : A → Type 0) (xs : List A) → ((x : A) → P x → Q x) → Each P xs → Each Q xs
each-map P Q [] f h = tt
each-map P Q (x ∷ xs) f h = (f x h.0, each-map P Q xs f h.1)

pub each-push : {A : Type 0} (P : A → Type 0) (xs : List A) (x : A) → Each P xs → P x → Each P (xs ++ x ∷ [])
each-push P [] x h k = (k, tt)
each-push P (y ∷ xs) x h k = (h.0, each-push P xs x h.1 k)

pub in-left : {A : Type 0} (x : A) (xs ys : List A) → IsIn x xs → IsIn x (xs ++ ys)
in-left x [] ys h = absurd h
in-left x (y ∷ xs) ys (inl e) = inl e
in-left x (y ∷ xs) ys (inr h) = inr (in-left x xs ys h)

pub in-right : {A : Type 0} (x : A) (xs ys : List A) → IsIn x ys → IsIn x (xs ++ ys)
in-right x [] ys h = h
in-right x (y ∷ xs) ys h = inr (in-right x xs ys h)

-- each element is below those behind it
abbrev pub Rising : {A : Type 0} → (A → A → Bool) → List A → Type 0
Rising lt [] = Unit {0}
Rising lt (x ∷ xs) = Each (λ y. lt x y ≡ true) xs × Rising lt xs

-- a filter of a rising list rises
pub each-filter : {A : Type 0} (P : A → Type 0) (test : A → Bool) (xs : List A) → Each P xs → Each P (filter test xs)
each-filter P test [] h = tt
each-filter P test (x ∷ xs) h = elim (test x) as (λ b. Each P (cond b (x ∷ filter test xs) (filter test xs))) [ true ↦ (h.0, each-filter P test xs h.1) | false ↦ each-filter P test xs h.1 ]

pub rising-filter : {A : Type 0} (lt : A → A → Bool) (test : A → Bool) (xs : List A) → Rising lt xs → Rising lt (filter test xs)
rising-filter lt test [] r = tt
rising-filter lt test (x ∷ xs) r = elim (test x) as (λ b. Rising lt (cond b (x ∷ filter test xs) (filter test xs))) [ true ↦ (each-filter (λ y. lt x y ≡ true) test xs r.0, rising-filter lt test xs r.1) | false ↦ rising-filter lt test xs r.1 ]

pub each-true : {A : Type 0} (test : A → Bool) (xs : List A) → list_all test xs ≡ true → Each (λ x. test x ≡ true) xs
each-true test [] h = tt
each-true test (x ∷ xs) h = ((and_parts _ _ h).0, each-true test xs (and_parts _ _ h).1)

pub true-each : {A : Type 0} (test : A → Bool) (xs : List A) → Each (λ x. test x ≡ true) xs → list_all test xs ≡ true
true-each test [] h = refl
true-each test (x ∷ xs) h = and_from _ _ h.0 (true-each test xs h.1)

pub filter-map : {A B : Type 0} (test : B → Bool) (f : A → B) (xs : List A) → filter test (map f xs) ≡ map f (filter (λ x. test (f x)) xs)
filter-map test f [] = refl
filter-map test f (x ∷ xs) = elim (test (f x)) as (λ b. cond b (f x ∷ filter test (map f xs)) (filter test (map f xs)) ≡ map f (cond b (x ∷ filter (λ y. test (f y)) xs) (filter (λ y. test (f y)) xs))) [
  | true ↦ ap (λ ys. f x ∷ ys) (filter-map test f xs)
  | false ↦ filter-map test f xs
]

pub filter-none : {A : Type 0} (test : A → Bool) (xs : List A) → ((x : A) → test x ≡ false) → filter test xs ≡ []
filter-none test [] h = refl
filter-none test (x ∷ xs) h = ap (λ b. cond b (x ∷ filter test xs) (filter test xs)) (h x) ∙ filter-none test xs h

-- the numbers from a on rise
pub range-rises : (a n : ℕ) → Rising nat_lt (range_with_len a n)
range-rises a zero = tt
range-rises a (suc n) = (above (a + 1) n (omega arith), range-rises (a + 1) n) where
  above : (b n : ℕ) → a < b → Each (λ y. nat_lt a y ≡ true) (range_with_len b n)
  above b zero h = tt
  above b (suc n) h = (lt-ltb a b h, above (b + 1) n (omega (arith, h)))

pub rising-push : {A : Type 0} (lt : A → A → Bool) (xs : List A) (y : A) → Rising lt xs → Each (λ x. lt x y ≡ true) xs → Rising lt (xs ++ y ∷ [])
rising-push lt [] y r h = (tt, tt)
rising-push lt (x ∷ xs) y r h = (each-push (λ z. lt x z ≡ true) xs y r.0 h.0, rising-push lt xs y r.1 h.1)

-- each two are related where the order says so
pub pair-from : {A : Type 0} (lt related : A → A → Bool) (P : A → Type 0) (xs : List A) → Rising lt xs → Each P xs → ((x y : A) → P x → lt x y ≡ true → related x y ≡ true) → each_pair related xs ≡ true
pair-from lt related P [] r h f = refl
pair-from {A} lt related P (x ∷ xs) r h f = and_from _ _ (true-each (related x) xs (each-map (λ y. lt x y ≡ true) (λ y. related x y ≡ true) xs (λ y k. f x y h.0 k) r.0)) (pair-from lt related P xs r.1 h.1 f)

pub next-from : {A : Type 0} (lt related : A → A → Bool) (xs : List A) → Rising lt xs → ((x y : A) → lt x y ≡ true → related x y ≡ true) → each_next related xs ≡ true
next-from lt related [] r f = refl
next-from lt related (x ∷ []) r f = refl
next-from lt related (x ∷ y ∷ xs) r f = and_from _ _ (f x y r.0.0) (next-from lt related (y ∷ xs) r.1 f)
