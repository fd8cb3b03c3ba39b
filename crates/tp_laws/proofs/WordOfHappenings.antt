-- What stands at a tick: which items, in which order, and how many of them are timed.
use Rattle.std.proofs.Common.{◌≡◌, refl, sym, ap, subst, ◌∙◌, ◌⊎◌, inl, inr, ℕ, ◌+◌, ◌<◌, ◌==◌, Bool, true, ◌&&◌, List, [], ◌∷◌, ◌++◌, map, length, arith, nat_lt}
use Rattle.std.specs.List.{AllByRecursion as Each, list_any, filter, range_with_len}
use Rattle.std.proofs.lemmas.Bool.{and_parts, false≢true, eqb-true, eq-eqb}
use Rattle.std.proofs.lemmas.List.Elements.{filter-append}
use Rattle.tp_spec.specs.declared.plan.Item.{Item}
use Rattle.tp_spec.specs.declared.plan.Item.TheVariants.{TimedAt, End, Start}
use Rattle.tp_spec.specs.declared.plan.Timed.{Timed}
use Rattle.tp_spec.specs.declared.problem.Problem.{Problem}
use Rattle.tp_spec.specs.Lists.{IsIn}
use Rattle.tp_spec.specs.Items.{all_items, item_before, is_durative, is_durative_kind}
use Rattle.tp_spec.specs.Courses.{stands, happening}
use Rattle.tp_spec.specs.Words.{is_start_of, is_end_of, timed_count}
use Rattle.tp_laws.proofs.EarlyLists.{Rising, rising-filter, range-rises, in-left, in-right, filter-map}
use Rattle.tp_laws.proofs.Members.{in-filter, in-append, in-map, map-in}
use Rattle.tp_laws.proofs.WordOfLists.{same-tests, any-in, in-any, filter-in, filter-passes, range-in, in-range, count-places, some-below, rising-append}

-- which items a problem has
abbrev pub HasItem : Problem → Item → Type 0
HasItem p (TimedAt k) = k < length p.timed
HasItem p (End a) = a < length p.actions
HasItem p (Start a) = a < length p.actions

-- the problem's items, and no others
pub item-in : (p : Problem) (i : Item) → HasItem p i → IsIn i (all_items p)
item-in p (TimedAt k) h =
    let ticks : List Item = map TimedAt (range_with_len 0 (length p.timed)) in
    let ends : List Item = map End (range_with_len 0 (length p.actions)) in
    in-left (TimedAt k) (ticks ++ ends) _ (in-left (TimedAt k) ticks ends (map-in TimedAt k _ (range-in k 0 (length p.timed) (omega arith) (omega (arith, h)))))
item-in p (End a) h =
    let ticks : List Item = map TimedAt (range_with_len 0 (length p.timed)) in
    let ends : List Item = map End (range_with_len 0 (length p.actions)) in
    in-left (End a) (ticks ++ ends) _ (in-right (End a) ticks ends (map-in End a _ (range-in a 0 (length p.actions) (omega arith) (omega (arith, h)))))
item-in p (Start a) h =
    let ticks : List Item = map TimedAt (range_with_len 0 (length p.timed)) in
    let ends : List Item = map End (range_with_len 0 (length p.actions)) in
    in-right (Start a) (ticks ++ ends) _ (map-in Start a _ (range-in a 0 (length p.actions) (omega arith) (omega (arith, h))))

pub in-items : (p : Problem) (i : Item) → IsIn i (all_items p) → HasItem p i
in-items p i h = by_part (in-append i (ticks ++ ends) starts h) where
  ticks : List Item
  ticks = map TimedAt (range_with_len 0 (length p.timed))

  ends : List Item
  ends = map End (range_with_len 0 (length p.actions))

  starts : List Item
  starts = map Start (range_with_len 0 (length p.actions))

  of_ticks : IsIn i ticks → HasItem p i
  of_ticks j = let r = in-map TimedAt i (range_with_len 0 (length p.timed)) j in let b = in-range r.0 0 (length p.timed) r.1 in subst (HasItem p) r.2 (omega (arith, b.1))

  of_ends : IsIn i ends → HasItem p i
  of_ends j = let r = in-map End i (range_with_len 0 (length p.actions)) j in let b = in-range r.0 0 (length p.actions) r.1 in subst (HasItem p) r.2 (omega (arith, b.1))

  of_starts : IsIn i starts → HasItem p i
  of_starts j = let r = in-map Start i (range_with_len 0 (length p.actions)) j in let b = in-range r.0 0 (length p.actions) r.1 in subst (HasItem p) r.2 (omega (arith, b.1))

  by_side : IsIn i ticks ⊎ IsIn i ends → HasItem p i
  by_side (inl j) = of_ticks j
  by_side (inr j) = of_ends j

  by_part : IsIn i (ticks ++ ends) ⊎ IsIn i starts → HasItem p i
  by_part (inl j) = by_side (in-append i ticks ends j)
  by_part (inr j) = of_starts j

-- what stands at a tick, and is an item of the problem, is in the happening, and nothing else is
pub in-happening : (p : Problem) (acts : List Timed) (t : ℕ) (i : Item) → IsIn i (happening p acts t) → HasItem p i × (stands p acts t i ≡ true)
in-happening p acts t i h = (in-items p i (in-filter (stands p acts t) i (all_items p) h), filter-passes (stands p acts t) (all_items p) i h)

pub happening-in : (p : Problem) (acts : List Timed) (t : ℕ) (i : Item) → HasItem p i → stands p acts t i ≡ true → IsIn i (happening p acts t)
happening-in p acts t i h s = filter-in (stands p acts t) (all_items p) i (item-in p i h) s

-- items of a problem in their order, so each once
each_above : (xs : List ℕ) (x : ℕ) (f : ℕ → Item) → ((y z : ℕ) → nat_lt y z ≡ true → item_before (f y) (f z) ≡ true) → Each (λ y. nat_lt x y ≡ true) xs → Each (λ i. item_before (f x) i ≡ true) (map f xs)
each_above [] x f k h = tt
each_above (y ∷ ys) x f k h = (k x y h.0, each_above ys x f k h.1)

kind-rises : (f : ℕ → Item) (xs : List ℕ) → ((y z : ℕ) → nat_lt y z ≡ true → item_before (f y) (f z) ≡ true) → Rising nat_lt xs → Rising item_before (map f xs)
kind-rises f [] k r = tt
kind-rises f (x ∷ xs) k r = (each_above xs x f k r.0, kind-rises f xs k r.1)

pub items-rise : (p : Problem) → Rising item_before (all_items p)
items-rise p = rising-append item_before (ticks ++ ends) (map Start actions)
    (rising-append item_before ticks ends (kind-rises TimedAt times (λ y z h. h) (range-rises 0 (length p.timed))) (kind-rises End actions (λ y z h. h) (range-rises 0 (length p.actions))) ticks_first)
    (kind-rises Start actions (λ y z h. h) (range-rises 0 (length p.actions)))
    starts_last
  where
    times : List ℕ
    times = range_with_len 0 (length p.timed)

    actions : List ℕ
    actions = range_with_len 0 (length p.actions)

    ticks : List Item
    ticks = map TimedAt times

    ends : List Item
    ends = map End actions

    both : (P : Item → Item → Type 0) (x y : Item) (f g : ℕ → Item) → ((a b : ℕ) → P (f a) (g b)) → (a : ℕ) → f a ≡ x → (b : ℕ) → g b ≡ y → P x y
    both P x y f g h a e b k = subst (λ u. P u y) e (subst (P (f a)) k (h a b))

    ticks_first : (x y : Item) → IsIn x ticks → IsIn y ends → item_before x y ≡ true
    ticks_first x y i j =
        let r = in-map TimedAt x times i in
        let s = in-map End y actions j in
        both (λ u v. item_before u v ≡ true) x y TimedAt End (λ a b. refl) r.0 r.2 s.0 s.2

    starts_last : (x y : Item) → IsIn x (ticks ++ ends) → IsIn y (map Start actions) → item_before x y ≡ true
    starts_last x y i j = by_side (in-append x ticks ends i) where
      s : (b : ℕ) × IsIn b actions × (Start b ≡ y)
      s = in-map Start y actions j

      of_ticks : IsIn x ticks → item_before x y ≡ true
      of_ticks i = let r = in-map TimedAt x times i in both (λ u v. item_before u v ≡ true) x y TimedAt Start (λ a b. refl) r.0 r.2 s.0 s.2

      of_ends : IsIn x ends → item_before x y ≡ true
      of_ends i = let r = in-map End x actions i in both (λ u v. item_before u v ≡ true) x y End Start (λ a b. refl) r.0 r.2 s.0 s.2

      by_side : IsIn x ticks ⊎ IsIn x ends → item_before x y ≡ true
      by_side (inl i) = of_ticks i
      by_side (inr i) = of_ends i

pub happening-rises : (p : Problem) (acts : List Timed) (t : ℕ) → Rising item_before (happening p acts t)
happening-rises p acts t = rising-filter item_before (stands p acts t) (all_items p) (items-rise p)

-- whether a start, or an end, is among items
pub start-of : (a : ℕ) (i : Item) → is_start_of a i ≡ true → Start a ≡ i
start-of a (TimedAt k) h = absurd (false≢true h)
start-of a (End b) h = absurd (false≢true h)
start-of a (Start b) h = ap Start (eqb-true a b h)

pub end-of : (a : ℕ) (i : Item) → is_end_of a i ≡ true → End a ≡ i
end-of a (TimedAt k) h = absurd (false≢true h)
end-of a (End b) h = ap End (eqb-true a b h)
end-of a (Start b) h = absurd (false≢true h)

pub any-start : (a : ℕ) (is : List Item) → list_any (is_start_of a) is ≡ true → IsIn (Start a) is
any-start a is h = let r = any-in (is_start_of a) is h in subst (λ i. IsIn i is) (sym (start-of a r.0 r.2)) r.1

pub start-any : (a : ℕ) (is : List Item) → IsIn (Start a) is → list_any (is_start_of a) is ≡ true
start-any a is i = in-any (is_start_of a) is (Start a) i (eq-eqb a a refl)

pub any-end : (a : ℕ) (is : List Item) → list_any (is_end_of a) is ≡ true → IsIn (End a) is
any-end a is h = let r = any-in (is_end_of a) is h in subst (λ i. IsIn i is) (sym (end-of a r.0 r.2)) r.1

pub end-any : (a : ℕ) (is : List Item) → IsIn (End a) is → list_any (is_end_of a) is ≡ true
end-any a is i = in-any (is_end_of a) is (End a) i (eq-eqb a a refl)

-- a durative action is one of the problem's
pub durative-below : (p : Problem) (a : ℕ) → is_durative p a ≡ true → a < length p.actions
durative-below p a h = some-below (λ x. is_durative_kind x.kind) p.actions a h

-- the ends of a tick
pub ends-happen : (p : Problem) (acts : List Timed) (t a : ℕ) → list_any (is_end_of a) (happening p acts t) ≡ stands p acts t (End a)
ends-happen p acts t a = same-tests _ _
    (λ h. (in-happening p acts t (End a) (any-end a (happening p acts t) h)).1)
    (λ h. end-any a (happening p acts t) (happening-in p acts t (End a) (durative-below p a (and_parts _ _ h).0) h))

-- its starts, where each act is of one of the problem's actions
pub starts-happen : (p : Problem) (acts : List Timed) (t a : ℕ) → ((x : Timed) → IsIn x acts → x.action < length p.actions) → list_any (is_start_of a) (happening p acts t) ≡ stands p acts t (Start a)
starts-happen p acts t a there = same-tests _ _
    (λ h. (in-happening p acts t (Start a) (any-start a (happening p acts t) h)).1)
    (λ h. start-any a (happening p acts t) (happening-in p acts t (Start a) (below h) h))
  where
    below : stands p acts t (Start a) ≡ true → a < length p.actions
    below h = let r = any-in (λ x. x.action == a && x.start == t) acts h in subst (λ b. b < length p.actions) (eqb-true (r.0).action a (and_parts _ _ r.2).0) (there r.0 r.1)

-- how many items are timed
abbrev pub times : List Item → ℕ
times [] = 0
times (i ∷ is) = timed_count i (times is)

pub times-count : (i : Item) (n m : ℕ) → timed_count i n + m ≡ n + timed_count i m
times-count (TimedAt k) n m = omega arith
times-count (End a) n m = refl
times-count (Start a) n m = refl

pub times-append : (is js : List Item) → times (is ++ js) ≡ times is + times js
times-append [] js = omega arith
times-append (i ∷ is) js = ap (timed_count i) (times-append is js) ∙ shift i where
  shift : (i : Item) → timed_count i (times is + times js) ≡ timed_count i (times is) + times js
  shift (TimedAt k) = omega arith
  shift (End a) = refl
  shift (Start a) = refl

times-all : (ks : List ℕ) → times (map TimedAt ks) ≡ length ks
times-all [] = refl
times-all (k ∷ ks) = omega (arith, times-all ks)

times-ends : (as' : List ℕ) → times (map End as') ≡ 0
times-ends [] = refl
times-ends (a ∷ as') = times-ends as'

times-starts : (as' : List ℕ) → times (map Start as') ≡ 0
times-starts [] = refl
times-starts (a ∷ as') = times-starts as'

pub times-happen : (p : Problem) (acts : List Timed) (t : ℕ) → times (happening p acts t) ≡ length (filter (λ i. i.tick == t) p.timed)
times-happen p acts t =
    let ticks : List Item = map TimedAt (range_with_len 0 (length p.timed)) in
    let ends : List Item = map End (range_with_len 0 (length p.actions)) in
    let starts : List Item = map Start (range_with_len 0 (length p.actions)) in
    let test : Item → Bool = stands p acts t in
    let none_end : times (filter test ends) ≡ 0 = ap times (filter-map test End (range_with_len 0 (length p.actions))) ∙ times-ends (filter (λ a. test (End a)) (range_with_len 0 (length p.actions))) in
    let none_start : times (filter test starts) ≡ 0 = ap times (filter-map test Start (range_with_len 0 (length p.actions))) ∙ times-starts (filter (λ a. test (Start a)) (range_with_len 0 (length p.actions))) in
    let timed : times (filter test ticks) ≡ length (filter (λ i. i.tick == t) p.timed)
    = ap times (filter-map test TimedAt (range_with_len 0 (length p.timed))) ∙ times-all (filter (λ k. test (TimedAt k)) (range_with_len 0 (length p.timed))) ∙ count-places (λ i. i.tick == t) p.timed in
    let parts : times (happening p acts t) ≡ times (filter test (ticks ++ ends) ++ filter test starts) = ap times (filter-append test (ticks ++ ends) starts) in
    let first : times (filter test (ticks ++ ends)) ≡ times (filter test ticks ++ filter test ends) = ap times (filter-append test ticks ends) in
    omega (arith, parts, first, times-append (filter test (ticks ++ ends)) (filter test starts), times-append (filter test ticks) (filter test ends), none_end, none_start, timed)
