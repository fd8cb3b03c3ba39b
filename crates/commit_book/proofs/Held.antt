-- Which commitments a word has, one by one.
use Rattle.std.proofs.Common.{◌≡◌, refl, sym, ap, ◌∙◌, ℕ, suc, ◌+◌, ◌<◌, ◌≤◌, Bool, true, false, cond, List, [], ◌∷◌, ◌++◌, length, get_or, take, drop, arith}
use Rattle.std.specs.Prelude.{nat_lt, ◌==◌, ◌&&◌, ◌||◌, if◌then◌else◌}
use Rattle.std.specs.List.{list_any}
use Rattle.std.proofs.Math.Seq.{drop-cons}
use Rattle.std.proofs.lemmas.Bool.{lt-ltb, le-ltb, eqb-true, eq-eqb}
use Rattle.std.proofs.lemmas.List.{take_more, drop_all}
use Rattle.std.proofs.lemmas.List.Sums.{sum_by-append}
use Rattle.tp_spec.specs.declared.plan.Mark.{Mark}
use Rattle.tp_spec.specs.declared.plan.Timed.{Timed}
use Rattle.tp_spec.specs.declared.problem.Problem.{Problem}
use Rattle.tp_spec.specs.Lists.{is_empty}
use Rattle.tp_spec.specs.Schedules.{awaited, without_first}
use Rattle.tp_spec.specs.Words.{Act, acts_of}
use Rattle.commit_book.specs.Starts.{starts_by, commits_by}
use Rattle.commit_book.proofs.Starts.{acts_count, acts-cons, starts-count}

-- a word has a start more of each commitment's action than there were commitments before it
abbrev pub held_from : List Mark → List Timed → List Timed → Bool
held_from w seen [] = true
held_from w seen (c ∷ rest) = nat_lt (commits_by c.action seen) (starts_by c.action w) && held_from w (seen ++ c ∷ []) rest

none-there : (a : ℕ) (xs : List Act) → list_any (λ x. x.action == a) xs ≡ false → acts_count a xs ≡ 0
none-there a [] e = refl
none-there a (x ∷ xs) e = acts-cons a x xs ∙ by_test (x.action == a) (none-there a xs) e
  where
    by_test : (t : Bool) → (list_any (λ y. y.action == a) xs ≡ false → acts_count a xs ≡ 0) → (t || list_any (λ y. y.action == a) xs) ≡ false → cond t 1 0 + acts_count a xs ≡ 0
    by_test true ih f = absurd cc
    by_test false ih f = let r = ih f in omega (arith, r)

-- the first of an action taken out
one-fewer : (a b : ℕ) (xs : List Act) → list_any (λ x. x.action == a) xs ≡ true → acts_count b xs ≡ acts_count b (without_first a xs) + cond (a == b) 1 0
one-fewer a b [] e = absurd cc
one-fewer a b (x ∷ xs) e = acts-cons b x xs ∙ by_test (x.action == a) refl (one-fewer a b xs) e
  where
    same : (x.action == a) ≡ true → (x.action == b) ≡ (a == b)
    same f = ap (λ k. k == b) (eqb-true x.action a f)

    by_test : (t : Bool) → (x.action == a) ≡ t → (list_any (λ y. y.action == a) xs ≡ true → acts_count b xs ≡ acts_count b (without_first a xs) + cond (a == b) 1 0) → (t || list_any (λ y. y.action == a) xs) ≡ true
        → cond (x.action == b) 1 0 + acts_count b xs ≡ acts_count b (if t then xs else x ∷ without_first a xs) + cond (a == b) 1 0
    by_test true f ih k = let s = ap {B = ℕ} (λ t. cond t 1 0) (same f) in omega (arith, s)
    by_test false f ih k = let r = ih k in let one : acts_count b (if false then xs else x ∷ without_first a xs) ≡ cond (x.action == b) 1 0 + acts_count b (without_first a xs) = acts-cons b x (without_first a xs) in omega (arith, r, one)

-- what is left of the acts and what was seen are all starts
abbrev Left : List Mark → List Act → List Timed → Type 0
Left w xs seen = (a : ℕ) → acts_count a xs + commits_by a seen ≡ starts_by a w

seen-more : (a : ℕ) (seen : List Timed) (c : Timed) → commits_by a (seen ++ c ∷ []) ≡ commits_by a seen + cond (c.action == a) 1 0
seen-more a seen c = let e = sum_by-append (λ (d : Timed). cond (d.action == a) 1 0) seen (c ∷ []) in omega (arith, e)

held-left : (w : List Mark) (xs : List Act) (seen cs : List Timed) → Left w xs seen → is_empty (awaited xs cs) ≡ held_from w seen cs
held-left w xs seen [] h = refl
held-left w xs seen (c ∷ cs) h = by_test (λ ys left. held-left w ys (seen ++ c ∷ []) cs left) (list_any (λ x. x.action == c.action) xs) refl
  where
    by_test : ((ys : List Act) → Left w ys (seen ++ c ∷ []) → is_empty (awaited ys cs) ≡ held_from w (seen ++ c ∷ []) cs) → (t : Bool) → list_any (λ x. x.action == c.action) xs ≡ t → is_empty (if t then awaited (without_first c.action xs) cs else c ∷ awaited xs cs) ≡ (nat_lt (commits_by c.action seen) (starts_by c.action w) && held_from w (seen ++ c ∷ []) cs)
    by_test again true e =
        let some = one-fewer c.action c.action xs e in
        let one = ap {B = ℕ} (λ t. cond t 1 0) (eq-eqb c.action c.action refl) in
        let now = h c.action in
        again (without_first c.action xs) (λ a. let r = one-fewer c.action a xs e in let s = seen-more a seen c in let q = h a in omega (arith, r, s, q))
        ∙ ap (λ t. t && held_from w (seen ++ c ∷ []) cs) (sym (lt-ltb (commits_by c.action seen) (starts_by c.action w) (omega (arith, some, one, now))))
    by_test again false e =
        let none = none-there c.action xs e in
        let now = h c.action in
        ap (λ t. t && held_from w (seen ++ c ∷ []) cs) (sym (le-ltb (commits_by c.action seen) (starts_by c.action w) (omega (arith, none, now))))

pub held-is : (p : Problem) (w : List Mark) (cs : List Timed) → is_empty (awaited (acts_of p w) cs) ≡ held_from w [] cs
held-is p w cs = held-left w (acts_of p w) [] cs (λ a. let e = starts-count p a w in omega (arith, e))

held-step : (w : List Mark) (cs : List Timed) (i : ℕ) (d : Timed) → i < length cs → held_from w (take i cs) (drop i cs) ≡ (nat_lt (commits_by (get_or cs i d).action (take i cs)) (starts_by (get_or cs i d).action w) && held_from w (take (i + 1) cs) (drop (i + 1) cs))
held-step w cs i d b =
    let c : Timed = get_or cs i d in
    let next : suc i ≡ i + 1 = omega arith in
    let split : drop i cs ≡ c ∷ drop (i + 1) cs = drop-cons cs i d b ∙ ap (λ (j : ℕ). c ∷ drop j cs) next in
    ap (held_from w (take i cs)) split
    ∙ ap (λ (seen : List Timed). nat_lt (commits_by c.action (take i cs)) (starts_by c.action w) && held_from w seen (drop (i + 1) cs)) (sym (take_more cs i d b))

-- a commitment that the word has is passed ..
pub goes-on : (w : List Mark) (cs : List Timed) (i n k : ℕ) (d : Timed) (r : Bool) → i < length cs → n ≡ starts_by (get_or cs i d).action w → k ≡ commits_by (get_or cs i d).action (take i cs) → k < n → held_from w (take i cs) (drop i cs) ≡ r → held_from w (take (i + 1) cs) (drop (i + 1) cs) ≡ r
goes-on w cs i n k d r b en ek lt h =
    let c : Timed = get_or cs i d in
    sym (held-step w cs i d b ∙ ap (λ t. t && held_from w (take (i + 1) cs) (drop (i + 1) cs)) (lt-ltb (commits_by c.action (take i cs)) (starts_by c.action w) (omega (arith, en, ek, lt)))) ∙ h

-- .. and any other one is awaited
pub gives-up : (w : List Mark) (cs : List Timed) (i n k : ℕ) (d : Timed) (r : Bool) → i < length cs → n ≡ starts_by (get_or cs i d).action w → k ≡ commits_by (get_or cs i d).action (take i cs) → n ≤ k → held_from w (take i cs) (drop i cs) ≡ r → false ≡ r
gives-up w cs i n k d r b en ek le h =
    let c : Timed = get_or cs i d in
    sym (held-step w cs i d b ∙ ap (λ t. t && held_from w (take (i + 1) cs) (drop (i + 1) cs)) (le-ltb (commits_by c.action (take i cs)) (starts_by c.action w) (omega (arith, en, ek, le)))) ∙ h

pub all-held : (w : List Mark) (cs : List Timed) (i : ℕ) (r : Bool) → length cs ≤ i → held_from w (take i cs) (drop i cs) ≡ r → true ≡ r
all-held w cs i r b h = sym (ap (held_from w (take i cs)) (drop_all i cs b)) ∙ h
