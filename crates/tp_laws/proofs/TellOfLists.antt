-- Lists that rise, and what a filter of one is; the order of items.
use Rattle.std.proofs.Common.{◌≡◌, refl, sym, ap, subst, ◌∙◌, ℕ, zero, suc, ◌<◌, ◌≤◌, ◌==◌, inl, inr, Bool, true, false, ◌&&◌, ◌||◌, cond, List, [], ◌∷◌, ◌++◌, map, length, Some, None, arith, nat_lt}
use Rattle.std.specs.Prelude.{slice_get, IfSome}
use Rattle.std.specs.List.{AllByRecursion as Each, list_any, filter, range_with_len}
use Rattle.std.proofs.lemmas.Bool.{and_parts, false≢true, ltb-true, eqb-true, eq-eqb, ne_eqb}
use Rattle.std.proofs.lemmas.Bool.Decides.{nat_tests}
use Rattle.std.proofs.Math.Bool.{or-false}
use Rattle.tp_spec.specs.declared.plan.Item.{Item}
use Rattle.tp_spec.specs.declared.plan.Item.TheVariants.{TimedAt, End, Start}
use Rattle.tp_spec.specs.declared.problem.Problem.{Problem}
use Rattle.tp_spec.specs.declared.problem.TimedItem.{TimedItem}
use Rattle.tp_spec.specs.Lists.{IsIn, each_next, some_and}
use Rattle.tp_spec.specs.Items.{all_items, item_before, kind_index, number}
use Rattle.tp_spec.specs.Words.{is_start_of, is_end_of}
use Rattle.tp_laws.proofs.EarlyLists.{Rising, in-left, in-right, each-in, each-map, range-rises}
use Rattle.tp_laws.proofs.ClockActs.{each-append}
use Rattle.tp_laws.proofs.Members.{map-in}
use Rattle.tp_laws.proofs.WordOfLists.{range-in}

pub any-map : {A B : Type 0} (test : B → Bool) (f : A → B) (xs : List A) → list_any test (map f xs) ≡ list_any (λ x. test (f x)) xs
any-map test f [] = refl
any-map test f (x ∷ xs) = ap (λ b. test (f x) || b) (any-map test f xs)

pub any-same : {A : Type 0} (f g : A → Bool) (xs : List A) → Each (λ x. f x ≡ g x) xs → list_any f xs ≡ list_any g xs
any-same f g [] h = refl
any-same f g (x ∷ xs) h = λ i. h.0 i || any-same f g xs h.1 i

pub any-none : {A : Type 0} (f : A → Bool) (xs : List A) → ((x : A) → f x ≡ false) → list_any f xs ≡ false
any-none f [] h = refl
any-none f (x ∷ xs) h = λ i. h x i || any-none f xs h i

pub each-of : {A : Type 0} (P : A → Type 0) (xs : List A) → ((x : A) → IsIn x xs → P x) → Each P xs
each-of P [] h = tt
each-of P (x ∷ xs) h = (h x (inl refl), each-of P xs (λ y i. h y (inr i)))

pub rising-append : {A : Type 0} (lt : A → A → Bool) (xs ys : List A) → Rising lt xs → Rising lt ys → Each (λ x. Each (λ y. lt x y ≡ true) ys) xs → Rising lt (xs ++ ys)
rising-append lt [] ys r s h = s
rising-append lt (x ∷ xs) ys r s h = (each-append (λ y. lt x y ≡ true) xs ys r.0 h.0, rising-append lt xs ys r.1 s h.1)

each-of-map : {A B : Type 0} (P : B → Type 0) (f : A → B) (xs : List A) → Each (λ x. P (f x)) xs → Each P (map f xs)
each-of-map P f [] h = tt
each-of-map P f (x ∷ xs) h = (h.0, each-of-map P f xs h.1)

each-all : {A : Type 0} (P : A → Type 0) (xs : List A) → ((x : A) → P x) → Each P xs
each-all P [] h = tt
each-all P (x ∷ xs) h = (h x, each-all P xs h)

rising-map : {A : Type 0} (lt : A → A → Bool) (f : ℕ → A) (ns : List ℕ) → ((m n : ℕ) → nat_lt m n ≡ true → lt (f m) (f n) ≡ true) → Rising nat_lt ns → Rising lt (map f ns)
rising-map lt f [] h r = tt
rising-map lt f (n ∷ ns) h r = (each-of-map (λ y. lt (f n) y ≡ true) f ns (each-map (λ m. nat_lt n m ≡ true) (λ m. lt (f n) (f m) ≡ true) ns (λ m b. h n m b) r.0), rising-map lt f ns h r.1)

-- a strict order that goes no way round
abbrev pub Strict : {A : Type 0} → (A → A → Bool) → Type 0
Strict {A} lt = (x y : A) → lt x y ≡ true → lt y x ≡ true → ⊥

-- A list that rises, and whose members are just those of another rising one that pass, is its filter.
pub filter-is : {A : Type 0} (lt : A → A → Bool) (test : A → Bool) (xs ys : List A) → Strict lt → Rising lt xs → Rising lt ys
    → ((x : A) → IsIn x xs → test x ≡ true → IsIn x ys) → ((x : A) → IsIn x ys → test x ≡ true) → ((x : A) → IsIn x ys → IsIn x xs)
    → filter test xs ≡ ys
filter-is lt test [] [] strict r s to from here = refl
filter-is lt test [] (y ∷ ys) strict r s to from here = absurd (here y (inl refl))
filter-is {A} lt test (x ∷ xs) ys strict r s to from here = by_test (λ zs s to from here. filter-is lt test xs zs strict r.1 s to from here) (test x) refl ys s to from here where
  below : (z : A) → IsIn z xs → lt x z ≡ true
  below z i = each-in (λ y. lt x y ≡ true) xs z r.0 i

  -- the two heads are one
  same : (y : A) (ys : List A) → Rising lt (y ∷ ys) → IsIn x (y ∷ ys) → IsIn y (x ∷ xs) → y ≡ x
  same y ys s (inl f) i = f
  same y ys s (inr i) (inl f) = sym f
  same y ys s (inr i) (inr j) = absurd (strict x y (below y j) (each-in (λ z. lt y z ≡ true) ys x s.0 i))

  never : (z : A) → x ≡ z → lt x z ≡ true → ⊥
  never z e h = let self : lt x x ≡ true = subst (λ w. lt x w ≡ true) (sym e) h in strict x x self self

  by_test : ((zs : List A) → Rising lt zs → ((z : A) → IsIn z xs → test z ≡ true → IsIn z zs) → ((z : A) → IsIn z zs → test z ≡ true) → ((z : A) → IsIn z zs → IsIn z xs) → filter test xs ≡ zs)
      → (b : Bool) → test x ≡ b → (ys : List A) → Rising lt ys → ((z : A) → IsIn z (x ∷ xs) → test z ≡ true → IsIn z ys) → ((z : A) → IsIn z ys → test z ≡ true) → ((z : A) → IsIn z ys → IsIn z (x ∷ xs)) → cond b (x ∷ filter test xs) (filter test xs) ≡ ys
  by_test again true e [] s to from here = absurd (to x (inl refl) e)
  by_test again true e (y ∷ ys) s to from here =
      let head : y ≡ x = same y ys s (to x (inl refl) e) (here y (inl refl)) in
      let rest : filter test xs ≡ ys = again ys s.1 (λ z i t. to_rest head z i (to z (inr i) t)) (λ z i. from z (inr i)) (λ z i. here_rest z (subst (λ w. lt w z ≡ true) head (each-in (λ z. lt y z ≡ true) ys z s.0 i)) (here z (inr i))) in
      λ i. sym head i ∷ rest i
    where
      to_rest : y ≡ x → (z : A) → IsIn z xs → IsIn z (y ∷ ys) → IsIn z ys
      to_rest head z i (inl f) = absurd (never z (sym head ∙ f) (below z i))
      to_rest head z i (inr j) = j

      here_rest : (z : A) → lt x z ≡ true → IsIn z (x ∷ xs) → IsIn z xs
      here_rest z h (inl f) = absurd (never z f h)
      here_rest z h (inr j) = j
  by_test again false e ys s to from here = again ys s (λ z i t. to z (inr i) t) from (λ z i. there z (from z i) (here z i)) where
    there : (z : A) → test z ≡ true → IsIn z (x ∷ xs) → IsIn z xs
    there z t (inl f) = absurd (false≢true (sym e ∙ ap test f ∙ t))
    there z t (inr j) = j

-- whether an item is this one
abbrev pub is_item : Item → Item → Bool
is_item (TimedAt k) (TimedAt n) = k == n
is_item (TimedAt k) (End b) = false
is_item (TimedAt k) (Start b) = false
is_item (End a) j = is_end_of a j
is_item (Start a) j = is_start_of a j

is_item-true : (i j : Item) → is_item i j ≡ true → j ≡ i
is_item-true (TimedAt k) (TimedAt n) h = ap TimedAt (sym (eqb-true k n h))
is_item-true (TimedAt k) (End b) h = absurd (false≢true h)
is_item-true (TimedAt k) (Start b) h = absurd (false≢true h)
is_item-true (End a) (TimedAt n) h = absurd (false≢true h)
is_item-true (End a) (End b) h = ap End (sym (eqb-true a b h))
is_item-true (End a) (Start b) h = absurd (false≢true h)
is_item-true (Start a) (TimedAt n) h = absurd (false≢true h)
is_item-true (Start a) (End b) h = absurd (false≢true h)
is_item-true (Start a) (Start b) h = ap Start (sym (eqb-true a b h))

is_item-same : (i : Item) → is_item i i ≡ true
is_item-same (TimedAt k) = eq-eqb k k refl
is_item-same (End a) = eq-eqb a a refl
is_item-same (Start a) = eq-eqb a a refl

pub in-any : (i : Item) (is : List Item) → IsIn i is → list_any (is_item i) is ≡ true
in-any i [] h = absurd h
in-any i (j ∷ is) (inl e) = subst (λ (k : Item). (is_item i k || list_any (is_item i) is) ≡ true) (sym e) (ap (λ b. b || list_any (is_item i) is) (is_item-same i))
in-any i (j ∷ is) (inr h) = subst (λ b. (is_item i j || b) ≡ true) (sym (in-any i is h)) (either (is_item i j)) where
  either : (b : Bool) → (b || true) ≡ true
  either true = refl
  either false = refl

pub any-in : (i : Item) (is : List Item) → list_any (is_item i) is ≡ true → IsIn i is
any-in i [] h = absurd (false≢true h)
any-in i (j ∷ is) h = by_test (λ k. any-in i is k) (is_item i j) refl h where
  by_test : (list_any (is_item i) is ≡ true → IsIn i is) → (b : Bool) → is_item i j ≡ b → (b || list_any (is_item i) is) ≡ true → IsIn i (j ∷ is)
  by_test again true e h = inl (is_item-true i j e)
  by_test again false e h = inr (again h)

-- the order of items
pub items-strict : Strict item_before
items-strict i j h k = both (kind_index i) (kind_index j) (number i) (number j) h k where
  both : (a b m n : ℕ) → (nat_lt a b || (a == b && nat_lt m n)) ≡ true → (nat_lt b a || (b == a && nat_lt n m)) ≡ true → ⊥
  both a b m n h k = grind (arith, nat_tests)

pub items-rise : (p : Problem) → Rising item_before (all_items p)
items-rise p =
    let ticks : List Item = map TimedAt (range_with_len 0 (length p.timed)) in
    let ends : List Item = map End (range_with_len 0 (length p.actions)) in
    let starts : List Item = map Start (range_with_len 0 (length p.actions)) in
    rising-append item_before (ticks ++ ends) starts
    (rising-append item_before ticks ends
    (rising-map item_before TimedAt (range_with_len 0 (length p.timed)) (λ m n b. b) (range-rises 0 (length p.timed)))
    (rising-map item_before End (range_with_len 0 (length p.actions)) (λ m n b. b) (range-rises 0 (length p.actions)))
    (each-of-map (λ x. Each (λ y. item_before x y ≡ true) ends) TimedAt (range_with_len 0 (length p.timed)) (each-all _ (range_with_len 0 (length p.timed)) (λ k. each-of-map (λ y. item_before (TimedAt k) y ≡ true) End (range_with_len 0 (length p.actions)) (each-all _ (range_with_len 0 (length p.actions)) (λ a. refl))))))
    (rising-map item_before Start (range_with_len 0 (length p.actions)) (λ m n b. b) (range-rises 0 (length p.actions)))
    (each-append (λ x. Each (λ y. item_before x y ≡ true) starts) ticks ends
    (each-of-map (λ x. Each (λ y. item_before x y ≡ true) starts) TimedAt (range_with_len 0 (length p.timed)) (each-all _ (range_with_len 0 (length p.timed)) (λ k. each-of-map (λ y. item_before (TimedAt k) y ≡ true) Start (range_with_len 0 (length p.actions)) (each-all _ (range_with_len 0 (length p.actions)) (λ a. refl)))))
    (each-of-map (λ x. Each (λ y. item_before x y ≡ true) starts) End (range_with_len 0 (length p.actions)) (each-all _ (range_with_len 0 (length p.actions)) (λ k. each-of-map (λ y. item_before (End k) y ≡ true) Start (range_with_len 0 (length p.actions)) (each-all _ (range_with_len 0 (length p.actions)) (λ a. refl))))))

pub timed-known : (p : Problem) (k : ℕ) → k < length p.timed → IsIn (TimedAt k) (all_items p)
timed-known p k lt = in-left (TimedAt k) (map TimedAt (range_with_len 0 (length p.timed)) ++ map End (range_with_len 0 (length p.actions))) (map Start (range_with_len 0 (length p.actions)))
    (in-left (TimedAt k) (map TimedAt (range_with_len 0 (length p.timed))) (map End (range_with_len 0 (length p.actions))) (map-in TimedAt k (range_with_len 0 (length p.timed)) (range-in k 0 (length p.timed) (omega arith) (omega (arith, lt)))))

pub end-known : (p : Problem) (a : ℕ) → a < length p.actions → IsIn (End a) (all_items p)
end-known p a lt = in-left (End a) (map TimedAt (range_with_len 0 (length p.timed)) ++ map End (range_with_len 0 (length p.actions))) (map Start (range_with_len 0 (length p.actions)))
    (in-right (End a) (map TimedAt (range_with_len 0 (length p.timed))) (map End (range_with_len 0 (length p.actions))) (map-in End a (range_with_len 0 (length p.actions)) (range-in a 0 (length p.actions) (omega arith) (omega (arith, lt)))))

pub start-known : (p : Problem) (a : ℕ) → a < length p.actions → IsIn (Start a) (all_items p)
start-known p a lt = in-right (Start a) (map TimedAt (range_with_len 0 (length p.timed)) ++ map End (range_with_len 0 (length p.actions))) (map Start (range_with_len 0 (length p.actions)))
    (map-in Start a (range_with_len 0 (length p.actions)) (range-in a 0 (length p.actions) (omega arith) (omega (arith, lt))))

-- what comes later in a list of rising ticks is later
pub later-tick : (t : ℕ) (xs : List TimedItem) → each_next (λ x y. nat_lt x.tick y.tick) xs ≡ true → (j k : ℕ) → j ≤ k → (i : TimedItem) → slice_get xs k ≡ Some i → IfSome (slice_get xs j) (λ y. t < y.tick) → t < i.tick
later-tick t [] r j k le i e h = absurd (none_some e) where
  none_some : {A : Type 0} {x : A} → None ≡ Some x → ⊥
  none_some e = subst (λ o. elim o as (λ _. Type 0) [ None ↦ Unit {0} | Some _ ↦ ⊥ ]) e tt
later-tick t (x ∷ xs) r zero zero le i e h = subst (λ o. IfSome o (λ y. t < y.tick)) e h
later-tick t (x ∷ []) r zero (suc k) le i e h = later-tick t [] refl zero k (omega arith) i e tt
later-tick t (x ∷ y ∷ xs) r zero (suc k) le i e h = later-tick t (y ∷ xs) (and_parts _ _ r).1 zero k (omega arith) i e (omega (arith, h, ltb-true x.tick y.tick (and_parts _ _ r).0))
later-tick t (x ∷ xs) r (suc j) zero le i e h = absurd (omega (arith, le))
later-tick t (x ∷ []) r (suc j) (suc k) le i e h = later-tick t [] refl j k (omega (arith, le)) i e h
later-tick t (x ∷ y ∷ xs) r (suc j) (suc k) le i e h = later-tick t (y ∷ xs) (and_parts _ _ r).1 j k (omega (arith, le)) i e h

-- a test of what stands at a place of a list with one more at its end
pub get-push : {A : Type 0} (test : A → Bool) (xs : List A) (y : A) (m : ℕ) → some_and (slice_get (xs ++ y ∷ []) m) test ≡ (some_and (slice_get xs m) test || (m == length xs && test y))
get-push test [] y zero = refl
get-push test [] y (suc m) = ap (λ b. b && test y) (sym (ne_eqb (suc m) 0 (λ e. omega (arith, e))))
get-push test (x ∷ xs) y zero = sym (ap (λ b. test x || (b && test y)) (ne_eqb 0 (suc (length xs)) (λ e. omega (arith, e))) ∙ or-false (test x))
get-push test (x ∷ xs) y (suc m) = get-push test xs y m ∙ ap (λ b. some_and (slice_get xs m) test || (b && test y)) same where
  same : (m == length xs) ≡ (suc m == length (x ∷ xs))
  same = grind (arith, nat_tests)
