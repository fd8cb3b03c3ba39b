-- What the acts and the timed items of a word tell of its items, one item more.
use Rattle.std.proofs.Common.{◌≡◌, refl, sym, ap, subst, ◌∙◌, ℕ, ◌+◌, ◌<◌, ◌==◌, Bool, true, false, not, ◌&&◌, ◌||◌, cond, List, [], ◌∷◌, ◌++◌, length, Option, Some, None, arith, nat_lt, append-nil}
use Rattle.std.specs.Prelude.{slice_get}
use Rattle.std.specs.List.{AllByRecursion as Each, list_any}
use Rattle.std.proofs.lemmas.Bool.{and_parts, or_right, and_right, false≢true, ltb-true, eqb-true, ne_eqb}
use Rattle.std.proofs.lemmas.Bool.Decides.{nat_tests}
use Rattle.std.proofs.Math.Bool.{or-false}
use Rattle.std.proofs.lemmas.List.Folds.{list_any-append}
use Rattle.tp_spec.specs.declared.plan.Item.{Item}
use Rattle.tp_spec.specs.declared.plan.Item.TheVariants.{TimedAt, End, Start}
use Rattle.tp_spec.specs.declared.problem.Problem.{Problem}
use Rattle.tp_spec.specs.Lists.{some_and}
use Rattle.tp_spec.specs.Items.{item_before, is_durative}
use Rattle.tp_spec.specs.Words.{Act, Progress, is_start_of, is_end_of, runs_after, with_item, in_turn, timed_group, ended, with_act}
use Rattle.tp_laws.proofs.TellOfLists.{is_item, get-push}

-- whether an item stands in a group that passes a test, as the acts and the groups of the timed items say
abbrev pub has_in : Problem → List Act → List ℕ → (ℕ → Bool) → Item → Bool
has_in p xs ts test (TimedAt k) = some_and (slice_get ts k) test
has_in p xs ts test (End a) = is_durative p a && list_any (λ x. x.action == a && some_and x.closes test) xs
has_in p xs ts test (Start a) = list_any (λ x. x.action == a && test x.opens) xs

abbrev pub still_runs : Option ℕ → Bool
still_runs None = true
still_runs (Some g) = false

-- how many acts of an action run
abbrev pub open_count : ℕ → List Act → ℕ
open_count a [] = 0
open_count a (x ∷ xs) = cond (still_runs x.closes && x.action == a) 1 0 + open_count a xs

count-append : (a : ℕ) (xs ys : List Act) → open_count a (xs ++ ys) ≡ open_count a xs + open_count a ys
count-append a [] ys = omega arith
count-append a (x ∷ xs) ys = omega (arith, count-append a xs ys)

eqb-sym : (a b : ℕ) → (a == b) ≡ (b == a)
eqb-sym a b = grind (arith, nat_tests)

-- an end closes one running act
record EndsOne (a g : ℕ) (xs ys : List Act) : Type 0 where
  front : List Act
  act : Act
  rest : List Act
  whole : xs ≡ front ++ act ∷ rest
  result : ys ≡ front ++ record { action = act.action; opens = act.opens; closes = Some g } ∷ rest
  running : act.closes ≡ None
  mine : act.action ≡ a

ends_one : (a g : ℕ) (xs : List Act) → 0 < open_count a xs → EndsOne a g xs (ended a g xs)
ends_one a g [] h = absurd (omega (arith, h))
ends_one a g (x ∷ xs) h = by_end (λ k. ends_one a g xs k) x.closes refl (x.action == a) refl h where
  push : EndsOne a g xs (ended a g xs) → EndsOne a g (x ∷ xs) (x ∷ ended a g xs)
  push e = record {
    front = x ∷ e.front;
    act = e.act;
    rest = e.rest;
    whole = ap (λ zs. x ∷ zs) e.whole;
    result = ap (λ zs. x ∷ zs) e.result;
    running = e.running;
    mine = e.mine;
  }

  by_end : (0 < open_count a xs → EndsOne a g xs (ended a g xs)) → (o : Option ℕ) → x.closes ≡ o → (b : Bool) → (x.action == a) ≡ b → 0 < cond (still_runs o && b) 1 0 + open_count a xs
      → EndsOne a g (x ∷ xs) (elim o as (λ _. List Act) [ Some h ↦ x ∷ ended a g xs | None ↦ cond b (record { action = x.action; opens = x.opens; closes = Some g } ∷ xs) (x ∷ ended a g xs) ])
  by_end again (Some h) e b f k = push (again (omega (arith, k)))
  by_end again None e true f k = record {
    front = [];
    act = x;
    rest = xs;
    whole = refl;
    result = refl;
    running = e;
    mine = eqb-true x.action a f;
  }
  by_end again None e false f k = push (again (omega (arith, k)))

starts-ended : (test : ℕ → ℕ → Bool) (a g : ℕ) (xs ys : List Act) → EndsOne a g xs ys → list_any (λ x. test x.action x.opens) ys ≡ list_any (λ x. test x.action x.opens) xs
starts-ended test a g xs ys e =
    let f : Act → Bool = λ x. test x.action x.opens in
    ap (list_any f) e.result
    ∙ list_any-append f e.front (record { action = e.act.action; opens = e.act.opens; closes = Some g } ∷ e.rest)
    ∙ sym (list_any-append f e.front (e.act ∷ e.rest))
    ∙ ap (list_any f) (sym e.whole)

ends-ended : (p : Problem) (q : ℕ → Bool) (a b g : ℕ) (xs ys : List Act) → is_durative p b ≡ true → EndsOne b g xs ys
    → (is_durative p a && list_any (λ x. x.action == a && some_and x.closes q) ys) ≡ ((is_durative p a && list_any (λ x. x.action == a && some_and x.closes q) xs) || (a == b && q g))
ends-ended p q a b g xs ys long e =
    let f : Act → Bool = λ x. x.action == a && some_and x.closes q in
    let l : Bool = list_any f e.front in
    let r : Bool = list_any f e.rest in
    let after : list_any f ys ≡ (l || ((a == b && q g) || r))
    = ap (list_any f) e.result
    ∙ list_any-append f e.front (record { action = e.act.action; opens = e.act.opens; closes = Some g } ∷ e.rest)
    ∙ ap (λ (n : ℕ). l || ((n == a && q g) || r)) e.mine
    ∙ ap (λ t. l || ((t && q g) || r)) (eqb-sym b a) in
    let before : list_any f xs ≡ (l || ((b == a && false) || r))
    = ap (list_any f) e.whole
    ∙ list_any-append f e.front (e.act ∷ e.rest)
    ∙ (λ i. l || ((e.mine i == a && some_and (e.running i) q) || r)) in
    ap (λ t. is_durative p a && t) after ∙ by_test (a == b) (b == a) (is_durative p a) l r (q g) same ∙ ap (λ t. (is_durative p a && t) || (a == b && q g)) (sym before)
  where
    same : (a == b) ≡ true → is_durative p a ≡ true
    same h = ap (is_durative p) (eqb-true a b h) ∙ long

    or-true : (x : Bool) → true ≡ (x || true)
    or-true true = refl
    or-true false = refl

    by_test : (s t d l r v : Bool) → (s ≡ true → d ≡ true) → (d && (l || ((s && v) || r))) ≡ ((d && (l || ((t && false) || r))) || (s && v))
    by_test true t d l r v h = ap (λ c. c && (l || (v || r))) (h refl) ∙ long_case t l r v ∙ ap (λ c. (c && (l || ((t && false) || r))) || v) (sym (h refl)) where
      long_case : (t l r v : Bool) → (l || (v || r)) ≡ ((l || ((t && false) || r)) || v)
      long_case t true r v = refl
      long_case true false true true = refl
      long_case true false true false = refl
      long_case true false false true = refl
      long_case true false false false = refl
      long_case false false true true = refl
      long_case false false true false = refl
      long_case false false false true = refl
      long_case false false false false = refl
    by_test false true d l r v h = sym (or-false (d && (l || r)))
    by_test false false d l r v h = sym (or-false (d && (l || r)))

count-ended : (a b g : ℕ) (xs ys : List Act) → EndsOne b g xs ys → open_count a ys + cond (b == a) 1 0 ≡ open_count a xs
count-ended a b g xs ys e =
    let after : open_count a ys ≡ open_count a e.front + (0 + open_count a e.rest)
    = ap (open_count a) e.result ∙ count-append a e.front (record { action = e.act.action; opens = e.act.opens; closes = Some g } ∷ e.rest) in
    let before : open_count a xs ≡ open_count a e.front + (cond (b == a) 1 0 + open_count a e.rest)
    = ap (open_count a) e.whole ∙ count-append a e.front (e.act ∷ e.rest)
    ∙ (λ i. open_count a e.front + (cond (still_runs (e.running i) && e.mine i == a) 1 0 + open_count a e.rest)) in
    omega (arith, after, before)

-- what is asked of an item before it joins
abbrev pub IsReady : Problem → List Act → List ℕ → Item → Type 0
IsReady p xs ts (TimedAt k) = k ≡ length ts
IsReady p xs ts (End b) = (is_durative p b ≡ true) × (0 < open_count b xs)
IsReady p xs ts (Start b) = Unit {0}

or_false : (x : Bool) → x ≡ (x || false)
or_false x = sym (or-false x)

untimed : (p : Problem) (g : ℕ) (q : ℕ → Bool) (ts : List ℕ) (k : ℕ) → some_and (slice_get (ts ++ []) k) q ≡ (some_and (slice_get ts k) q || false)
untimed p g q ts k = ap (λ us. some_and (slice_get us k) q) (append-nil ts) ∙ or_false (some_and (slice_get ts k) q)

-- one item more
pub has-more : (p : Problem) (xs : List Act) (ts : List ℕ) (g : ℕ) (j : Item) → IsReady p xs ts j → (q : ℕ → Bool) (i : Item)
    → has_in p (with_act p g j xs) (ts ++ timed_group g j) q i ≡ (has_in p xs ts q i || (is_item i j && q g))
has-more p xs ts g (TimedAt k) ready q (TimedAt m) = get-push q ts g m ∙ ap (λ (n : ℕ). some_and (slice_get ts m) q || (m == n && q g)) (sym ready)
has-more p xs ts g (TimedAt k) ready q (End a) = or_false _
has-more p xs ts g (TimedAt k) ready q (Start a) = or_false _
has-more p xs ts g (End b) ready q (TimedAt m) = untimed p g q ts m
has-more p xs ts g (End b) ready q (End a) = ends-ended p q a b g xs (ended b g xs) ready.0 (ends_one b g xs ready.1)
has-more p xs ts g (End b) ready q (Start a) = starts-ended (λ n h. n == a && q h) b g xs (ended b g xs) (ends_one b g xs ready.1) ∙ or_false _
has-more p xs ts g (Start b) ready q (TimedAt m) = untimed p g q ts m
has-more p xs ts g (Start b) ready q (End a) =
    let f : Act → Bool = λ x. x.action == a && some_and x.closes q in
    let y : Act = record { action = b; opens = g; closes = cond (is_durative p b) None (Some g) } in
    ap (λ t. is_durative p a && t) (list_any-append f xs (y ∷ []))
    ∙ by_same (b == a) (is_durative p a) (is_durative p b) (list_any f xs) (λ e. ap (is_durative p) (eqb-true b a e))
  where
    by_same : (s d c l : Bool) → (s ≡ true → c ≡ d) → (d && (l || ((s && some_and (cond c None (Some g)) q) || false))) ≡ ((d && l) || false)
    by_same s false c l h = refl
    by_same true true c l h = ap (λ t. l || (some_and (cond t None (Some g)) q || false)) (h refl)
    by_same false true c l h = refl
has-more p xs ts g (Start b) ready q (Start a) =
    let f : Act → Bool = λ x. x.action == a && q x.opens in
    list_any-append f xs (record { action = b; opens = g; closes = cond (is_durative p b) None (Some g) } ∷ [])
    ∙ ap (λ t. list_any f xs || t) (or-false (b == a && q g) ∙ ap (λ t. t && q g) (eqb-sym b a))

-- an item that is behind all of a group is not in it, nor a start where it is an end
none_of : (test : Item → Bool) (i : Item) (group : List Item) → ((j : Item) → item_before j i ≡ true → test j ≡ false) → Each (λ j. item_before j i ≡ true) group → list_any test group ≡ false
none_of test i [] h r = refl
none_of test i (j ∷ group) h r = λ k. h j r.0 k || none_of test i group h r.1 k

not_start : (b : ℕ) (j : Item) → item_before j (Start b) ≡ true → is_start_of b j ≡ false
not_start b (TimedAt k) h = refl
not_start b (End a) h = refl
not_start b (Start a) h = ne_eqb b a (λ e. omega (arith, e, ltb-true a b h))

not_started : (b : ℕ) (j : Item) → item_before j (End b) ≡ true → is_start_of b j ≡ false
not_started b (TimedAt k) h = refl
not_started b (End a) h = refl
not_started b (Start a) h = absurd (false≢true h)

-- which actions run, by counts
pub runs-more : (p : Problem) (c : Progress) (xs : List Act) (ts : List ℕ) (g : ℕ) (i : Item) → in_turn p c i ≡ true → Each (λ j. item_before j i ≡ true) c.group → IsReady p xs ts i
    → ((a : ℕ) → open_count a xs ≡ cond (runs_after p c a) 1 0) → (a : ℕ) → open_count a (with_act p g i xs) ≡ cond (runs_after p (with_item c i) a) 1 0
runs-more p c xs ts g i turn behind ready runs a = by_item i turn behind ready
  where
    s : Bool
    s = list_any (is_start_of a) c.group

    e : Bool
    e = list_any (is_end_of a) c.group

    -- which actions run after one item more
    more : (i : Item) → runs_after p (with_item c i) a ≡ (((s || is_start_of a i) && is_durative p a) || (c.running a && not (e || is_end_of a i)))
    more i =
        let started : list_any (is_start_of a) (c.group ++ i ∷ []) ≡ (s || is_start_of a i) = list_any-append (is_start_of a) c.group (i ∷ []) ∙ ap (λ t. s || t) (or-false (is_start_of a i)) in
        let stopped : list_any (is_end_of a) (c.group ++ i ∷ []) ≡ (e || is_end_of a i) = list_any-append (is_end_of a) c.group (i ∷ []) ∙ ap (λ t. e || t) (or-false (is_end_of a i)) in
        λ k. (started k && is_durative p a) || (c.running a && not (stopped k))

    same : (((s || false) && is_durative p a) || (c.running a && not (e || false))) ≡ runs_after p c a
    same = λ k. (or-false s k && is_durative p a) || (c.running a && not (or-false e k))

    by_item : (i : Item) → in_turn p c i ≡ true → Each (λ j. item_before j i ≡ true) c.group → IsReady p xs ts i → open_count a (with_act p g i xs) ≡ cond (runs_after p (with_item c i) a) 1 0
    by_item (TimedAt k) turn behind ready = runs a ∙ ap (λ t. cond t 1 0) (sym (more (TimedAt k) ∙ same))
    by_item (End b) turn behind ready = by_same (a == b) refl where
      stops : (r f : Bool) → (r && not (f || true)) ≡ false
      stops true true = refl
      stops true false = refl
      stops false f = refl

      by_same : (t : Bool) → (a == b) ≡ t → open_count a (ended b g xs) ≡ cond (runs_after p (with_item c (End b)) a) 1 0
      by_same true q =
          let one : a ≡ b = eqb-true a b q in
          let none : s ≡ false = subst (λ (n : ℕ). list_any (is_start_of n) c.group ≡ false) (sym one) (none_of (is_start_of b) (End b) c.group (not_started b) behind) in
          let ran : runs_after p c a ≡ true = subst (λ (n : ℕ). runs_after p c n ≡ true) (sym one) (or_right _ _ turn) in
          let was : open_count a xs ≡ 1 = runs a ∙ ap (λ t. cond t 1 0) ran in
          let less : open_count a (ended b g xs) + 1 ≡ open_count a xs = ap (λ t. open_count a (ended b g xs) + cond t 1 0) (sym (eqb-sym b a ∙ q)) ∙ count-ended a b g xs (ended b g xs) (ends_one b g xs ready.1) in
          let over : runs_after p (with_item c (End b)) a ≡ false = more (End b) ∙ (λ k. ((none k || false) && is_durative p a) || (c.running a && not (e || q k))) ∙ stops (c.running a) e in
          let now : open_count a (ended b g xs) ≡ 0 = omega (arith, was, less) in
          now ∙ ap (λ t. cond t 1 0) (sym over)
      by_same false q =
          let kept : open_count a (ended b g xs) + 0 ≡ open_count a xs = ap (λ t. open_count a (ended b g xs) + cond t 1 0) (sym (eqb-sym b a ∙ q)) ∙ count-ended a b g xs (ended b g xs) (ends_one b g xs ready.1) in
          let now : open_count a (ended b g xs) ≡ open_count a xs = omega (arith, kept) in
          now ∙ runs a ∙ ap (λ t. cond t 1 0) (sym (more (End b) ∙ (λ k. ((s || false) && is_durative p a) || (c.running a && not (e || q k))) ∙ same))
    by_item (Start b) turn behind ready = by_same (a == b) refl where
      free : (not (c.running b) || list_any (is_end_of b) c.group) ≡ true
      free = (and_parts (nat_lt b (length p.actions)) (not (c.running b) || list_any (is_end_of b) c.group) turn).1

      y : Act
      y = record { action = b; opens = g; closes = cond (is_durative p b) None (Some g) }

      total : open_count a (xs ++ y ∷ []) ≡ open_count a xs + (cond (still_runs (cond (is_durative p b) None (Some g)) && b == a) 1 0 + 0)
      total = count-append a xs (y ∷ [])

      idle : (r f : Bool) → (not r || f) ≡ true → (r && not f) ≡ false
      idle true true h = refl
      idle true false h = absurd (false≢true h)
      idle false f h = refl

      opened : (d : Bool) → ◌≡◌ {A = ℕ} (cond (still_runs (cond d None (Some g)) && true) 1 0) (cond d 1 0)
      opened true = refl
      opened false = refl

      by_same : (t : Bool) → (a == b) ≡ t → open_count a (xs ++ y ∷ []) ≡ cond (runs_after p (with_item c (Start b)) a) 1 0
      by_same true q =
          let one : a ≡ b = eqb-true a b q in
          let none : s ≡ false = subst (λ (n : ℕ). list_any (is_start_of n) c.group ≡ false) (sym one) (none_of (is_start_of b) (Start b) c.group (not_start b) behind) in
          let rested : (c.running a && not e) ≡ false = subst (λ (n : ℕ). (c.running n && not (list_any (is_end_of n) c.group)) ≡ false) (sym one) (idle (c.running b) (list_any (is_end_of b) c.group) free) in
          let was : open_count a xs ≡ 0 = runs a ∙ (λ k. cond ((none k && is_durative p a) || rested k) 1 0) in
          let added : ◌≡◌ {A = ℕ} (cond (still_runs (cond (is_durative p b) None (Some g)) && b == a) 1 0) (cond (is_durative p a) 1 0)
          = ap (λ t. cond (still_runs (cond (is_durative p b) None (Some g)) && t) 1 0) (eqb-sym b a ∙ q) ∙ opened (is_durative p b) ∙ ap (λ (n : ℕ). cond (is_durative p n) 1 0) (sym one) in
          let now : runs_after p (with_item c (Start b)) a ≡ is_durative p a
          = more (Start b) ∙ (λ k. ((none k || q k) && is_durative p a) || (c.running a && not (or-false e k))) ∙ (λ k. is_durative p a || rested k) ∙ or-false (is_durative p a) in
          let counted : open_count a (xs ++ y ∷ []) ≡ cond (is_durative p a) 1 0 = omega (arith, total, was, added) in
          counted ∙ ap (λ t. cond t 1 0) (sym now)
      by_same false q =
          let added : ◌≡◌ {A = ℕ} (cond (still_runs (cond (is_durative p b) None (Some g)) && b == a) 1 0) 0
          = ap (λ t. cond (still_runs (cond (is_durative p b) None (Some g)) && t) 1 0) (eqb-sym b a ∙ q) ∙ ap (λ t. cond t 1 0) (and_right (still_runs (cond (is_durative p b) None (Some g))) false refl) in
          let counted : open_count a (xs ++ y ∷ []) ≡ open_count a xs = omega (arith, total, added) in
          counted ∙ runs a ∙ ap (λ t. cond t 1 0) (sym (more (Start b) ∙ (λ k. ((s || q k) && is_durative p a) || (c.running a && not (e || false))) ∙ same))
