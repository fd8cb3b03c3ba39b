-- The first start of a word that is no commitment, mark by mark.
use Rattle.std.proofs.Common.{◌≡◌, refl, sym, ap, subst, ◌∙◌, ℕ, ◌+◌, ◌-◌, ◌<◌, ◌≤◌, Bool, true, false, cond, List, [], ◌∷◌, ◌++◌, length, map, get_or, take, Some, None, arith, append_assoc}
use Rattle.std.specs.Prelude.{nat_lt, ◌==◌, if◌then◌else◌}
use Rattle.std.specs.List.{count_by}
use Rattle.std.proofs.lemmas.Bool.{ltb-false}
use Rattle.std.proofs.lemmas.Bool.Decides.{nat_tests}
use Rattle.std.proofs.lemmas.List.{take_more, append-nil}
use Rattle.std.proofs.lemmas.List.Sums.{sum_by-append}
use Rattle.tp_spec.specs.declared.plan.Item.{Item}
use Rattle.tp_spec.specs.declared.plan.Item.TheVariants.{TimedAt, End, Start}
use Rattle.tp_spec.specs.declared.plan.Mark.{Mark}
use Rattle.tp_spec.specs.declared.plan.Timed.{Timed}
use Rattle.tp_spec.specs.declared.problem.Problem.{Problem}
use Rattle.tp_spec.specs.Items.{is_durative}
use Rattle.tp_spec.specs.Machine.{candidate}
use Rattle.tp_spec.specs.Words.{Act, groups, ended, with_act, acts_from, acts_of, is_start_of}
use Rattle.tp_laws.proofs.ClockOpens.{ended-cons}
use Rattle.tp_laws.proofs.Ends.{acts-append}
use Rattle.commit_book.specs.Starts.{starts_by, commits_by, free_action}

-- how many acts of an action
abbrev pub acts_count : ℕ → List Act → ℕ
acts_count a xs = count_by (λ y. y.action == a) xs

-- acts of the same actions, one by one
abbrev pub actions : List Act → List ℕ
actions xs = map (λ x. x.action) xs

pub acts-cons : (a : ℕ) (x : Act) (xs : List Act) → acts_count a (x ∷ xs) ≡ cond (x.action == a) 1 0 + acts_count a xs
acts-cons a x xs = let e = sum_by-append (λ (y : Act). cond (y.action == a) 1 0) (x ∷ []) xs in omega (arith, e)

pub count-actions : (a : ℕ) (xs : List Act) → acts_count a xs ≡ count_by (λ b. b == a) (actions xs)
count-actions a [] = refl
count-actions a (x ∷ xs) =
    let ih = count-actions a xs in
    let one = acts-cons a x xs in
    let other = sum_by-append (λ b. cond (b == a) 1 0) (x.action ∷ []) (actions xs) in
    omega (arith, ih, one, other)

pub same-count : (a : ℕ) (xs ys : List Act) → actions xs ≡ actions ys → acts_count a xs ≡ acts_count a ys
same-count a xs ys e = count-actions a xs ∙ ap (count_by (λ b. b == a)) e ∙ sym (count-actions a ys)

pub actions-ended : (a g : ℕ) (xs : List Act) → actions (ended a g xs) ≡ actions xs
actions-ended a g [] = refl
actions-ended a g (x ∷ xs) = ended-cons (λ ys. actions ys ≡ x.action ∷ actions xs) a g x xs (ap (λ rest. x.action ∷ rest) (actions-ended a g xs)) refl

-- starts of a word and its acts

eqb-sym : (a b : ℕ) → (a == b) ≡ (b == a)
eqb-sym a b = grind (arith, nat_tests)

more-acts : (a : ℕ) (xs : List Act) (y : Act) → acts_count a (xs ++ y ∷ []) ≡ acts_count a xs + cond (y.action == a) 1 0
more-acts a xs y = let e = sum_by-append (λ (z : Act). cond (z.action == a) 1 0) xs (y ∷ []) in omega (arith, e)

item-count : (p : Problem) (a g : ℕ) (i : Item) (xs : List Act) → acts_count a (with_act p g i xs) ≡ acts_count a xs + cond (is_start_of a i) 1 0
item-count p a g (TimedAt k) xs = omega arith
item-count p a g (End b) xs = let e = same-count a (ended b g xs) xs (actions-ended b g xs) in omega (arith, e)
item-count p a g (Start b) xs =
    more-acts a xs (record { action = b; opens = g; closes = if is_durative p b then None else Some g })
    ∙ ap (λ t. acts_count a xs + cond t 1 0) (eqb-sym b a)

starts-from : (p : Problem) (a n : ℕ) (w : List Mark) (xs : List Act) → acts_count a (acts_from p n w xs) ≡ acts_count a xs + starts_by a w
starts-from p a n [] xs = omega arith
starts-from p a n (m ∷ w) xs =
    let k : ℕ = cond m.fresh (n + 1) n in
    let ih = starts-from p a k w (with_act p (k - 1) m.item xs) in
    let one = item-count p a (k - 1) m.item xs in
    let first = sum_by-append (λ (n : Mark). cond (is_start_of a n.item) 1 0) (m ∷ []) w in
    omega (arith, ih, one, first)

-- a word has as many acts of an action as starts
pub starts-count : (p : Problem) (a : ℕ) (w : List Mark) → acts_count a (acts_of p w) ≡ starts_by a w
starts-count p a w = let e = starts-from p a 0 w [] in omega (arith, e)

-- the first act that is no commitment hangs on the actions alone

abbrev pub is_held : List Act → List Timed → Act → Bool
is_held before c x = nat_lt (acts_count x.action before) (commits_by x.action c)

pub candidate-same : (c : List Timed) (b d xs ys : List Act) → ((a : ℕ) → acts_count a b ≡ acts_count a d) → actions xs ≡ actions ys → candidate b c xs ≡ None → candidate d c ys ≡ None
candidate-same c b d [] [] n e h = refl
candidate-same c b d [] (y ∷ ys) n e h = absurd cc
candidate-same c b d (x ∷ xs) [] n e h = absurd cc
candidate-same c b d (x ∷ xs) (y ∷ ys) n e h =
    let head : x.action ≡ y.action = cc in
    let tail : actions xs ≡ actions ys = cc in
    let test : is_held b c x ≡ is_held d c y = (λ i. nat_lt (acts_count (head i) b) (commits_by (head i) c)) ∙ ap (λ k. nat_lt k (commits_by y.action c)) (n y.action) in
    by_test (is_held b c x) (is_held d c y) test (candidate-same c (b ++ x ∷ []) (d ++ y ∷ []) xs ys (more head) tail) h
  where
    more : x.action ≡ y.action → (a : ℕ) → acts_count a (b ++ x ∷ []) ≡ acts_count a (d ++ y ∷ [])
    more head a = more-acts a b x ∙ (λ i. n a i + cond (head i == a) 1 0) ∙ sym (more-acts a d y)

    by_test : (s t : Bool) → s ≡ t → (candidate (b ++ x ∷ []) c xs ≡ None → candidate (d ++ y ∷ []) c ys ≡ None) → (if s then candidate (b ++ x ∷ []) c xs else Some x) ≡ None → (if t then candidate (d ++ y ∷ []) c ys else Some y) ≡ None
    by_test true true e ih f = ih f
    by_test true false e ih f = absurd cc
    by_test false t e ih f = absurd cc

pub candidate-append : (before : List Act) (c : List Timed) (xs ys : List Act) → candidate before c xs ≡ None → candidate before c (xs ++ ys) ≡ candidate (before ++ xs) c ys
candidate-append before c [] ys h = ap (λ b. candidate b c ys) (sym (append-nil before))
candidate-append before c (x ∷ xs) ys h =
    by_test (is_held before c x) (candidate-append (before ++ x ∷ []) c xs ys) h ∙ ap (λ b. candidate b c ys) (append_assoc before (x ∷ []) xs)
  where
    by_test : (t : Bool) → (candidate (before ++ x ∷ []) c xs ≡ None → candidate (before ++ x ∷ []) c (xs ++ ys) ≡ candidate ((before ++ x ∷ []) ++ xs) c ys) → (if t then candidate (before ++ x ∷ []) c xs else Some x) ≡ None → (if t then candidate (before ++ x ∷ []) c (xs ++ ys) else Some x) ≡ candidate ((before ++ x ∷ []) ++ xs) c ys
    by_test true ih f = ih f
    by_test false ih f = absurd cc

-- one mark more

-- groups are the fresh marks
pub fresh-count : (w : List Mark) → groups w ≡ count_by (λ m. m.fresh) w
fresh-count [] = refl
fresh-count (m ∷ w) = let ih = fresh-count w in let first = sum_by-append (λ (n : Mark). cond n.fresh 1 0) (m ∷ []) w in omega (arith, ih, first)

groups-more : (u : List Mark) (fresh : Bool) (item : Item) → cond fresh (groups u + 1) (groups u) ≡ groups (u ++ record { fresh = fresh; item = item } ∷ [])
groups-more [] true item = refl
groups-more [] false item = refl
groups-more (v ∷ u) true item = let ih = groups-more u true item in omega (arith, ih)
groups-more (v ∷ u) false item = let ih = groups-more u false item in omega (arith, ih)

pub groups-next : (w : List Mark) (i : ℕ) (d : Mark) → i < length w → cond (get_or w i d).fresh (groups (take i w) + 1) (groups (take i w)) ≡ groups (take (i + 1) w)
groups-next w i d b = groups-more (take i w) (get_or w i d).fresh (get_or w i d).item ∙ sym (ap groups (take_more w i d b))

pub acts-next : (p : Problem) (w : List Mark) (i : ℕ) (d : Mark) → i < length w → acts_of p (take (i + 1) w) ≡ with_act p (groups (take (i + 1) w) - 1) (get_or w i d).item (acts_of p (take i w))
acts-next p w i d b =
    let m : Mark = get_or w i d in
    let next : take (i + 1) w ≡ take i w ++ m ∷ [] = take_more w i d b in
    ap (acts_of p) next ∙ acts-append p 0 (take i w) (m ∷ []) [] ∙ ap (λ (k : ℕ). with_act p (cond m.fresh (k + 1) k - 1) m.item (acts_of p (take i w))) (zero-more (groups (take i w)))
    ∙ ap (λ (k : ℕ). with_act p (k - 1) m.item (acts_of p (take i w))) (groups-next w i d b)
  where
    zero-more : (n : ℕ) → 0 + n ≡ n
    zero-more n = omega arith

pass-item : (p : Problem) (c : List Timed) (g : ℕ) (before : List Mark) (i : Item) (xs : List Act) → ((a : ℕ) → acts_count a xs ≡ starts_by a before) → free_action before c i ≡ None → candidate [] c xs ≡ None → candidate [] c (with_act p g i xs) ≡ None
pass-item p c g before (TimedAt k) xs n e h = h
pass-item p c g before (End b) xs n e h = candidate-same c [] [] xs (ended b g xs) (λ a. refl) (sym (actions-ended b g xs)) h
pass-item p c g before (Start b) xs n e h =
    candidate-append [] c xs (new ∷ []) h ∙ by_test (nat_lt (starts_by b before) (commits_by b c)) (ap (λ k. nat_lt k (commits_by b c)) (n b)) e
  where
    new : Act
    new = record { action = b; opens = g; closes = if is_durative p b then None else Some g }

    by_test : (t : Bool) → nat_lt (acts_count b xs) (commits_by b c) ≡ t → (if t then None else Some b) ≡ None → candidate xs c (new ∷ []) ≡ None
    by_test true f k = ap (λ (s : Bool). if s then None else Some new) f
    by_test false f k = absurd cc

-- a mark that starts nothing, or whose start is a commitment, is passed
pub passes : (p : Problem) (c : List Timed) (w : List Mark) (i : ℕ) (d : Mark) → i < length w → free_action (take i w) c (get_or w i d).item ≡ None → candidate [] c (acts_of p (take i w)) ≡ None → candidate [] c (acts_of p (take (i + 1) w)) ≡ None
passes p c w i d b e h =
    ap (candidate [] c) (acts-next p w i d b)
    ∙ pass-item p c (groups (take (i + 1) w) - 1) (take i w) (get_or w i d).item (acts_of p (take i w)) (λ a. starts-count p a (take i w)) e h

-- what a free item is
pub record Frees (before : List Mark) (c : List Timed) (i : Item) (a : ℕ) : Type 0 where
  pub item : i ≡ Start a
  pub enough : commits_by a c ≤ starts_by a before

pub frees : (before : List Mark) (c : List Timed) (i : Item) (a : ℕ) → free_action before c i ≡ Some a → Frees before c i a
frees before c (TimedAt k) a e = absurd cc
frees before c (End b) a e = absurd cc
frees before c (Start b) a e = by_test (nat_lt (starts_by b before) (commits_by b c)) refl e
  where
    by_test : (t : Bool) → nat_lt (starts_by b before) (commits_by b c) ≡ t → (if t then None else Some b) ≡ Some a → Frees before c (Start b) a
    by_test true f k = absurd cc
    by_test false f k =
        let same : b ≡ a = cc in record {
          item = ap Start same;
          enough = subst (λ (x : ℕ). commits_by x c ≤ starts_by x before) same (ltb-false (starts_by b before) (commits_by b c) f);
        }
