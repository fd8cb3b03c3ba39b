-- What the live marks after a word say: their items are the problem's, and they are few.
use Rattle.std.proofs.Common.{◌≡◌, refl, ℕ, zero, suc, ◌+◌, ◌^◌, ◌<◌, ◌≤◌, inl, inr, ◌||◌, ◌&&◌, Bool, true, false, not, cond, List, [], ◌∷◌, length, arith, IsTrue, slice_get}
use Rattle.std.specs.List.{AllByRecursion as Each, list_any}
use Rattle.std.proofs.lemmas.Bool.{and_parts, or_cases, false≢true, ltb-true, leb-true}
use Rattle.tp_spec.specs.declared.plan.Item.{Item}
use Rattle.tp_spec.specs.declared.plan.Item.TheVariants.{TimedAt, End, Start}
use Rattle.tp_spec.specs.declared.plan.Limits.{Limits}
use Rattle.tp_spec.specs.declared.plan.Mark.{Mark}
use Rattle.tp_spec.specs.declared.problem.Problem.{Problem}
use Rattle.tp_spec.specs.Items.{item_before, is_durative}
use Rattle.tp_spec.specs.Lists.{IsIn, each_next, some_and}
use Rattle.tp_spec.specs.Machine.{Machine, AreLiveMarks, mark_before}
use Rattle.tp_spec.specs.WellFormed.{IsWellFormed}
use Rattle.tp_spec.specs.Words.{Progress, at_start, is_start_of, is_end_of, in_turn, may_follow, past_group, progress, read_mark, read_on, with_item}
use Rattle.tp_laws.proofs.EarlyReading.{follow-back}

pub each-of : {A : Type 0} (P : A → Type 0) (xs : List A) → ((x : A) → IsIn x xs → P x) → Each P xs
each-of P [] f = tt
each-of P (x ∷ xs) f = (f x (inl refl), each-of P xs (λ y i. f y (inr i)))

-- a member of this place is there
below : {A : Type 0} (xs : List A) (i : ℕ) (test : A → Bool) → some_and (slice_get xs i) test ≡ true → i < length xs
below [] i test h = absurd (false≢true h)
below (x ∷ xs) zero test h = omega arith
below (x ∷ xs) (suc i) test h = let r = below xs i test h in omega (arith, r)

-- only durative actions run
abbrev pub Steady : Problem → Progress → Type 0
Steady p c = (a : ℕ) → c.running a ≡ true → is_durative p a ≡ true

steady-past : (p : Problem) (c : Progress) → Steady p c → Steady p (past_group p c)
steady-past p c s a h =
    let starts : Bool = list_any (is_start_of a) c.group in
    let stays : Bool = not (list_any (is_end_of a) c.group) in
    elim (or_cases (starts && is_durative p a) (c.running a && stays) h) [
      | inl started ↦ (and_parts starts (is_durative p a) started).1
      | inr goes_on ↦ s a (and_parts (c.running a) stays goes_on).0
    ]

steady-mark : (p : Problem) (c : Progress) (m : Mark) → Steady p c → Steady p (read_mark p c m)
steady-mark p c m s = by_fresh m.fresh where
  by_fresh : (b : Bool) → Steady p (with_item (cond b (past_group p c) c) m.item)
  by_fresh true = steady-past p c s
  by_fresh false = s

pub steady-read : (p : Problem) (c : Progress) (w : List Mark) → Steady p c → Steady p (read_on p c w)
steady-read p c [] s = s
steady-read p c (m ∷ w) s = steady-read p (read_mark p c m) w (steady-mark p c m s)

module _ (p : Problem) where
  abbrev actions : ℕ
  actions = length p.actions

  abbrev timed : ℕ
  timed = length p.timed

  -- how many items there are
  abbrev items : ℕ
  items = timed + actions + actions

  -- the item is the problem's
  abbrev pub Fits : Item → Type 0
  Fits (TimedAt k) = k < timed
  Fits (End a) = a < actions
  Fits (Start a) = a < actions

  fits-turn : (c : Progress) → Steady p c → (i : Item) → in_turn p c i ≡ true → Fits i
  fits-turn c s (TimedAt k) h = ltb-true k timed (and_parts _ _ h).1
  fits-turn c s (End a) h = below p.actions a _ (s a (and_parts _ _ h).0)
  fits-turn c s (Start a) h = ltb-true a actions (and_parts _ _ h).0

  pub fits-mark : (c : Progress) → Steady p c → (b : Bool) (i : Item) → may_follow p c (record { fresh = b; item = i }) ≡ true → Fits i
  fits-mark c s true i h = fits-turn (past_group p c) (steady-past p c s) i (and_parts _ _ (and_parts _ _ (and_parts _ _ h).1).0).0
  fits-mark c s false i h = fits-turn c s i (and_parts _ _ (and_parts _ _ (and_parts _ _ h).1).0).0

  -- the place of an item among all
  place : Item → ℕ
  place (TimedAt k) = k
  place (End a) = timed + a
  place (Start a) = timed + actions + a

  place-below : (i : Item) → Fits i → place i < items
  unfolding place
  place-below (TimedAt k) h = omega (arith, h)
  place-below (End a) h = omega (arith, h)
  place-below (Start a) h = omega (arith, h)

  place-rises : (i j : Item) → Fits i → Fits j → item_before i j ≡ true → place i < place j
  unfolding place
  place-rises (TimedAt k) (TimedAt n) f g h = ltb-true k n h
  place-rises (TimedAt k) (End b) f g h = omega (arith, f)
  place-rises (TimedAt k) (Start b) f g h = omega (arith, f)
  place-rises (End a) (TimedAt n) f g h = absurd (false≢true h)
  place-rises (End a) (End b) f g h = omega (arith, ltb-true a b h)
  place-rises (End a) (Start b) f g h = omega (arith, f)
  place-rises (Start a) (TimedAt n) f g h = absurd (false≢true h)
  place-rises (Start a) (End b) f g h = absurd (false≢true h)
  place-rises (Start a) (Start b) f g h = omega (arith, ltb-true a b h)

  -- joining marks come first, then fresh ones, each kind in item order
  key : Mark → ℕ
  key a = cond a.fresh items 0 + place a.item

  keys-rise : (f g : Bool) (i j : Item) → Fits i → Fits j → cond f (g && item_before i j) (g || item_before i j) ≡ true → cond f items 0 + place i < cond g items 0 + place j
  keys-rise true true i j s r h = omega (arith, place-rises i j s r h)
  keys-rise true false i j s r h = absurd (false≢true h)
  keys-rise false true i j s r h = omega (arith, place-below i s)
  keys-rise false false i j s r h = omega (arith, place-rises i j s r h)

  key-below : (a : Mark) → Fits a.item → key a < items + items
  unfolding key
  key-below a s = omega (arith, place-below a.item s, by_fresh a.fresh) where
    by_fresh : (b : Bool) → cond b items 0 ≤ items
    by_fresh true = omega arith
    by_fresh false = omega arith

  key-rises : (a b : Mark) → Fits a.item → Fits b.item → mark_before a b ≡ true → key a < key b
  unfolding key
  key-rises a b s r h = keys-rise a.fresh b.fresh a.item b.item s r h

  few-behind : (a : Mark) (bs : List Mark) → Each (λ m. Fits m.item) (a ∷ bs) → each_next mark_before (a ∷ bs) ≡ true → key a + length (a ∷ bs) ≤ items + items
  few-behind a [] s h = omega (arith, key-below a s.0)
  few-behind a (b ∷ bs) s h = omega (arith, key-rises a b s.0 s.1.0 (and_parts _ _ h).0, few-behind b bs s.1 (and_parts _ _ h).1)

  few : (bs : List Mark) → Each (λ m. Fits m.item) bs → each_next mark_before bs ≡ true → length bs ≤ items + items
  few [] s h = omega arith
  few (b ∷ bs) s h = omega (arith, few-behind b bs s h)

module _ (p : Problem) (l : Limits) (formed : IsWellFormed p) (m : Machine) (w : List Mark) (marks : List Mark) (exact : AreLiveMarks p l m w marks) where
  follow-one : (a : Mark) → IsIn a marks → IsTrue (may_follow p (progress p w) a)
  follow-one a i = (follow-back p (at_start p) w (a ∷ []) (exact.live a i).sound.follows).0

  all-fit : Each (λ m. Fits p m.item) marks
  all-fit = each-of (λ m. Fits p m.item) marks
      (λ a i. fits-mark p (progress p w) (steady-read p (at_start p) w (λ a h. absurd (false≢true h))) a.fresh a.item (follow-one a i))

  -- their number fits 32 bits
  pub marks-few : length marks < 2 ^ 32
  marks-few =
      let most : length p.actions ≤ 4096 = leb-true (length p.actions) 4096 (and_parts _ _ formed.acting).0 in
      let some : length p.timed ≤ 256 = leb-true (length p.timed) 256 (and_parts _ _ (and_parts _ _ formed.timing).0).0 in
      omega (arith, few p marks all-fit exact.in_order, most, some)
