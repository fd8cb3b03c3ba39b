-- What `apply` asks of its items, of some of a problem's items in order, as a happening is.
use Rattle.std.proofs.Common.{◌≡◌, refl, ap, ◌∙◌, ℕ, zero, suc, ◌+◌, ◌≤◌, ◌<◌, Bool, true, false, not, ◌&&◌, eqb, ltb, List, [], ◌∷◌, ◌++◌, length, map, cond, arith}
use Rattle.std.specs.List.{list_all, filter, range_with_len}
use Rattle.std.proofs.lemmas.Bool.{and_parts, and_from, ne_eqb, lt-ltb}
use Rattle.std.proofs.lemmas.List.Folds.{list_all-append, list_all-map}
use Rattle.tp_spec.specs.declared.plan.Item.{Item}
use Rattle.tp_spec.specs.declared.plan.Item.TheVariants.{TimedAt, End, Start}
use Rattle.tp_spec.specs.Items.{all_items}
use Rattle.tp_spec.specs.Lists.{each_pair}
use Rattle.tp_spec.specs.WellFormed.{Ground}
use Rattle.world_state.specs.Happenings.{is_item_of, same_item}

range_below : (a n m : ℕ) → a + n ≤ m → list_all (λ k. ltb k m) (range_with_len a n) ≡ true
range_below a zero m le = refl
range_below a (suc n) m le =
    let here : a < m = omega arith in
    let rest : a + 1 + n ≤ m = omega arith in
    and_from (ltb a m) (list_all (λ k. ltb k m) (range_with_len (a + 1) n)) (lt-ltb a m here) (range_below (a + 1) n m rest)

range_apart : (b a n : ℕ) → b < a → list_all (λ k. not (eqb b k)) (range_with_len a n) ≡ true
range_apart b a zero less = refl
range_apart b a (suc n) less =
    let other : b ≡ a → ⊥ = λ e. omega (arith, e) in
    let more : b < a + 1 = omega arith in
    and_from (not (eqb b a)) (list_all (λ k. not (eqb b k)) (range_with_len (a + 1) n)) (ap not (ne_eqb b a other)) (range_apart b (a + 1) n more)

range_differs : (a n : ℕ) → each_pair (λ i j. not (eqb i j)) (range_with_len a n) ≡ true
range_differs a zero = refl
range_differs a (suc n) =
    let next : a < a + 1 = omega arith in
    and_from (list_all (λ k. not (eqb a k)) (range_with_len (a + 1) n)) (each_pair (λ i j. not (eqb i j)) (range_with_len (a + 1) n))
    (range_apart a (a + 1) n next) (range_differs (a + 1) n)

each_pair-map : {A B : Type 0} (related : B → B → Bool) (f : A → B) (xs : List A) → each_pair related (map f xs) ≡ each_pair (λ x y. related (f x) (f y)) xs
each_pair-map related f [] = refl
each_pair-map related f (x ∷ xs) =
    ap (λ b. b && each_pair related (map f xs)) (list_all-map (related (f x)) f xs)
    ∙ ap (λ b. list_all (λ y. related (f x) (f y)) xs && b) (each_pair-map related f xs)

each_pair-append : {A : Type 0} (related : A → A → Bool) (xs ys : List A) → each_pair related xs ≡ true → each_pair related ys ≡ true
    → list_all (λ x. list_all (related x) ys) xs ≡ true → each_pair related (xs ++ ys) ≡ true
each_pair-append related [] ys h k across = k
each_pair-append related (x ∷ xs) ys h k across =
    let parts = and_parts (list_all (related x) xs) (each_pair related xs) h in
    let to = and_parts (list_all (related x) ys) (list_all (λ x. list_all (related x) ys) xs) across in
    and_from (list_all (related x) (xs ++ ys)) (each_pair related (xs ++ ys))
    (list_all-append (related x) xs ys ∙ and_from (list_all (related x) xs) (list_all (related x) ys) parts.0 to.0)
    (each_pair-append related xs ys parts.1 k to.1)

all_pass : {A : Type 0} (xs : List A) → list_all (λ x. true) xs ≡ true
all_pass [] = refl
all_pass (x ∷ xs) = all_pass xs

all_of : {A : Type 0} (test : A → Bool) → ((x : A) → test x ≡ true) → (xs : List A) → list_all test xs ≡ true
all_of test each [] = refl
all_of test each (x ∷ xs) = and_from (test x) (list_all test xs) (each x) (all_of test each xs)

-- whether two items differ
abbrev differ : Item → Item → Bool
differ i j = not (same_item i j)

-- items of two kinds
kinds_differ : (f g : ℕ → Item) → ((x y : ℕ) → differ (f x) (g y) ≡ true) → (xs ys : List ℕ) → list_all (λ i. list_all (differ i) (map g ys)) (map f xs) ≡ true
kinds_differ f g apart xs ys =
    list_all-map (λ i. list_all (differ i) (map g ys)) f xs
    ∙ all_of (λ x. list_all (differ (f x)) (map g ys)) (λ x. list_all-map (differ (f x)) g ys ∙ all_of (λ y. differ (f x) (g y)) (apart x) ys) xs

pub all_items_inside : (p : Ground) → list_all (is_item_of p) (all_items p) ≡ true
all_items_inside p =
    let timed : List ℕ = range_with_len 0 (length p.timed) in
    let acts : List ℕ = range_with_len 0 (length p.actions) in
    list_all-append (is_item_of p) (map TimedAt timed ++ map End acts) (map Start acts)
    ∙ and_from (list_all (is_item_of p) (map TimedAt timed ++ map End acts)) (list_all (is_item_of p) (map Start acts))
    (list_all-append (is_item_of p) (map TimedAt timed) (map End acts)
    ∙ and_from (list_all (is_item_of p) (map TimedAt timed)) (list_all (is_item_of p) (map End acts))
    (list_all-map (is_item_of p) TimedAt timed ∙ range_below 0 (length p.timed) (length p.timed) (omega arith))
    (list_all-map (is_item_of p) End acts ∙ range_below 0 (length p.actions) (length p.actions) (omega arith)))
    (list_all-map (is_item_of p) Start acts ∙ range_below 0 (length p.actions) (length p.actions) (omega arith))

pub all_items_differ : (p : Ground) → each_pair (λ i j. not (same_item i j)) (all_items p) ≡ true
all_items_differ p =
    let timed : List ℕ = range_with_len 0 (length p.timed) in
    let acts : List ℕ = range_with_len 0 (length p.actions) in
    each_pair-append differ (map TimedAt timed ++ map End acts) (map Start acts)
    (each_pair-append differ (map TimedAt timed) (map End acts)
    (each_pair-map differ TimedAt timed ∙ range_differs 0 (length p.timed))
    (each_pair-map differ End acts ∙ range_differs 0 (length p.actions))
    (kinds_differ TimedAt End (λ x y. refl) timed acts))
    (each_pair-map differ Start acts ∙ range_differs 0 (length p.actions))
    (list_all-append (λ i. list_all (differ i) (map Start acts)) (map TimedAt timed) (map End acts)
    ∙ and_from (list_all (λ i. list_all (differ i) (map Start acts)) (map TimedAt timed)) (list_all (λ i. list_all (differ i) (map Start acts)) (map End acts))
    (kinds_differ TimedAt Start (λ x y. refl) timed acts) (kinds_differ End Start (λ x y. refl) acts acts))

pub all_kept : {A : Type 0} (test keep : A → Bool) (xs : List A) → list_all test xs ≡ true → list_all test (filter keep xs) ≡ true
all_kept test keep [] h = refl
all_kept test keep (x ∷ xs) h =
    let parts = and_parts (test x) (list_all test xs) h in
    either (keep x) test x (filter keep xs) parts.0 (all_kept test keep xs parts.1)
  where
    either : {A : Type 0} (b : Bool) (test : A → Bool) (x : A) (ys : List A) → test x ≡ true → list_all test ys ≡ true → list_all test (cond b (x ∷ ys) ys) ≡ true
    either true test x ys h k = and_from (test x) (list_all test ys) h k
    either false test x ys h k = k

pub pairs_kept : {A : Type 0} (related : A → A → Bool) (keep : A → Bool) (xs : List A) → each_pair related xs ≡ true → each_pair related (filter keep xs) ≡ true
pairs_kept related keep [] h = refl
pairs_kept related keep (x ∷ xs) h =
    let parts = and_parts (list_all (related x) xs) (each_pair related xs) h in
    either (keep x) related x (filter keep xs) (all_kept (related x) keep xs parts.0) (pairs_kept related keep xs parts.1)
  where
    either : {A : Type 0} (b : Bool) (related : A → A → Bool) (x : A) (ys : List A) → list_all (related x) ys ≡ true → each_pair related ys ≡ true
        → each_pair related (cond b (x ∷ ys) ys) ≡ true
    either true related x ys h k = and_from (list_all (related x) ys) (each_pair related ys) h k
    either false related x ys h k = k

-- each list of some of a problem's items in order, as a happening, has items of the problem, and no two are the same
pub some_items_fit : (p : Ground) (keep : Item → Bool)
    → (list_all (is_item_of p) (filter keep (all_items p)) ≡ true) × (each_pair (λ i j. not (same_item i j)) (filter keep (all_items p)) ≡ true)
some_items_fit p keep = (all_kept (is_item_of p) keep (all_items p) (all_items_inside p), pairs_kept differ keep (all_items p) (all_items_differ p))
