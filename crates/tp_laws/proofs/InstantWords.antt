-- What a sound word of instant actions gives of its last group and of the mark that comes next.
use Rattle.std.proofs.Common.{◌≡◌, inl, refl, sym, ap, subst, ◌∙◌, ℕ, suc, ◌+◌, ◌-◌, ◌<◌, Bool, true, false, not, ◌&&◌, ◌==◌, cond, List, [], ◌∷◌, ◌++◌, length, Option, Some, None, arith, IsTrue, nat_lt, slice_get}
use Rattle.std.specs.List.{list_all, list_any}
use Rattle.std.proofs.lemmas.Bool.{and_parts, false≢true, eqb-true, ltb-true, not-true}
use Rattle.std.proofs.lemmas.Option.{slice_get_within}
use Rattle.tp_spec.specs.declared.plan.Item.{Item}
use Rattle.tp_spec.specs.declared.plan.Item.TheVariants.{TimedAt, End, Start}
use Rattle.tp_spec.specs.declared.plan.Mark.{Mark}
use Rattle.tp_spec.specs.declared.problem.Problem.{Problem}
use Rattle.tp_spec.specs.declared.problem.TimedItem.{TimedItem}
use Rattle.tp_spec.specs.Lists.{is_empty, some_and}
use Rattle.tp_spec.specs.Items.{item_before}
use Rattle.tp_spec.specs.Interference.{interfere}
use Rattle.tp_spec.specs.Words.{Act, Progress, Sound, at_start, closes, may_join, past_group, in_turn, may_follow, progress, groups, acts_from, acts_of, with_act, timed_from, timed_of, timed_group}
use Rattle.tp_laws.specs.Plans.{items_in}
use Rattle.tp_laws.specs.Instants.{is_instant_item, is_instant_mark, last_group}
use Rattle.tp_laws.proofs.EarlyReading.{follow-front, follow-back}
use Rattle.tp_laws.proofs.ClockActs.{there}
use Rattle.tp_laws.proofs.TellOfLists.{is_item, in-any}
use Rattle.tp_laws.proofs.TellOfWords.{Tells, tells-sound}

last-cons : (g : ℕ) (gs : List ℕ) (h : ℕ) → last_group gs ≡ Some h → last_group (g ∷ gs) ≡ Some h
last-cons g gs h e =
    let place : suc (length gs - 1) ≡ suc (length gs) - 1 = omega (arith, slice_get_within gs (length gs - 1) h e) in
    subst (λ (k : ℕ). slice_get (g ∷ gs) k ≡ Some h) place e

some-acts : (p : Problem) (n : ℕ) (w : List Mark) (x : Act) (xs : List Act) → list_all (is_instant_mark p) w ≡ true → acts_from p n w (x ∷ xs) ≡ [] → ⊥
some-acts p n [] x xs h e = cc
some-acts p n (m ∷ w) x xs h e = by_item m.item (and_parts (is_instant_mark p m) (list_all (is_instant_mark p) w) h).0 (λ ys f. some-acts p (cond m.fresh (n + 1) n) w x ys (and_parts (is_instant_mark p m) (list_all (is_instant_mark p) w) h).1 f) e
  where
    by_item : (i : Item) → is_instant_item p i ≡ true → ((ys : List Act) → acts_from p (cond m.fresh (n + 1) n) w (x ∷ ys) ≡ [] → ⊥) → acts_from p (cond m.fresh (n + 1) n) w (with_act p (cond m.fresh (n + 1) n - 1) i (x ∷ xs)) ≡ [] → ⊥
    by_item (TimedAt k) may ih f = ih xs f
    by_item (End a) may ih f = false≢true may
    by_item (Start a) may ih f = ih _ f

-- the first mark of a word without starts is a timed item
timed-first : (p : Problem) (n : ℕ) (m : Mark) (w : List Mark) → list_all (is_instant_mark p) (m ∷ w) ≡ true → acts_from p n (m ∷ w) [] ≡ [] → (k : ℕ) × (m.item ≡ TimedAt k)
timed-first p n m w h e = by_item m.item (and_parts (is_instant_mark p m) (list_all (is_instant_mark p) w) h).0 e
  where
    by_item : (i : Item) → is_instant_item p i ≡ true → acts_from p (cond m.fresh (n + 1) n) w (with_act p (cond m.fresh (n + 1) n - 1) i []) ≡ [] → (k : ℕ) × (i ≡ TimedAt k)
    by_item (TimedAt k) may f = (k, refl)
    by_item (End a) may f = absurd (false≢true may)
    by_item (Start a) may f = absurd (some-acts p (cond m.fresh (n + 1) n) w _ [] (and_parts (is_instant_mark p m) (list_all (is_instant_mark p) w) h).1 f)

-- without a start a timed item stands in the last group
only-timed : (p : Problem) (n : ℕ) (m : Mark) (w : List Mark) → list_all (is_instant_mark p) (m ∷ w) ≡ true → acts_from p n (m ∷ w) [] ≡ [] → last_group (timed_from n (m ∷ w)) ≡ Some (n + groups (m ∷ w) - 1)
only-timed p n m [] h e =
    let first = timed-first p n m [] h e in
    subst (λ (i : Item). last_group (timed_group (cond m.fresh (n + 1) n - 1) i ++ []) ≡ Some (n + (cond m.fresh 1 0 + 0) - 1)) (sym first.1) (ap Some (by_fresh m.fresh))
  where
    by_fresh : (b : Bool) → cond b (n + 1) n - 1 ≡ n + (cond b 1 0 + 0) - 1
    by_fresh true = omega arith
    by_fresh false = omega arith
only-timed p n m (r ∷ w) h e =
    let first = timed-first p n m (r ∷ w) h e in
    let none : acts_from p (cond m.fresh (n + 1) n) (r ∷ w) [] ≡ [] = subst (λ (i : Item). acts_from p (cond m.fresh (n + 1) n) (r ∷ w) (with_act p (cond m.fresh (n + 1) n - 1) i []) ≡ []) first.1 e in
    let rest = only-timed p (cond m.fresh (n + 1) n) r w (and_parts (is_instant_mark p m) (list_all (is_instant_mark p) (r ∷ w)) h).1 none in
    subst (λ (i : Item). last_group (timed_group (cond m.fresh (n + 1) n - 1) i ++ timed_from (cond m.fresh (n + 1) n) (r ∷ w)) ≡ Some (n + (cond m.fresh 1 0 + groups (r ∷ w)) - 1)) (sym first.1)
    (last-cons (cond m.fresh (n + 1) n - 1) (timed_from (cond m.fresh (n + 1) n) (r ∷ w)) (cond m.fresh (n + 1) n + groups (r ∷ w) - 1) rest ∙ ap Some (by_fresh m.fresh (groups (r ∷ w))))
  where
    by_fresh : (b : Bool) (k : ℕ) → cond b (n + 1) n + k - 1 ≡ n + (cond b 1 0 + k) - 1
    by_fresh true k = omega arith
    by_fresh false k = omega arith

pub last-timed : (p : Problem) (w : List Mark) → list_all (is_instant_mark p) w ≡ true → (g : ℕ) → groups w ≡ suc g → acts_of p w ≡ [] → last_group (timed_of w) ≡ Some g
last-timed p [] h g is e = absurd (omega (arith, is))
last-timed p (m ∷ w) h g is e = only-timed p 0 m w h e ∙ ap Some (omega (arith, is))

-- a word and one mark more
module _ (p : Problem) (w : List Mark) (fresh : Bool) (i : Item) (sound : Sound p (w ++ record { fresh = fresh; item = i } ∷ [])) where
  pub front : Sound p w
  front = record { follows = follow-front p (at_start p) w (record { fresh = fresh; item = i } ∷ []) sound.follows }

  may : IsTrue (may_follow p (progress p w) (record { fresh = fresh; item = i }))
  may = (follow-back p (at_start p) w (record { fresh = fresh; item = i } ∷ []) sound.follows).0

  told : Tells p w (λ g. items_in g w) (progress p w) (groups w) (acts_of p w) (timed_of w)
  told = tells-sound p w front

  -- a mark that joins a group needs one
  pub some-group : fresh ≡ false → 0 < groups w
  some-group e = by_fresh fresh e may
    where
      by_fresh : (b : Bool) → b ≡ false → cond b (closes p (progress p w) && may_join p (past_group p (progress p w)) i) (not (is_empty (progress p w).group) && may_join p (progress p w) i) ≡ true → 0 < groups w
      by_fresh true e m = absurd (false≢true (sym e))
      by_fresh false e m = told.opened (not-true (is_empty (progress p w).group) (and_parts (not (is_empty (progress p w).group)) (may_join p (progress p w) i) m).0)

-- a timed item is the next one
module _ (p : Problem) (w : List Mark) (fresh : Bool) (k : ℕ) (sound : Sound p (w ++ record { fresh = fresh; item = TimedAt k } ∷ [])) where
  told-before : Tells p w (λ g. items_in g w) (progress p w) (groups w) (acts_of p w) (timed_of w)
  told-before = tells-sound p w (front p w fresh (TimedAt k) sound)

  turn-of : (c : Progress) → c.timed ≡ (progress p w).timed → in_turn p c (TimedAt k) ≡ true → (k ≡ length (timed_of w)) × (k < length p.timed)
  turn-of c same h =
      let parts = and_parts (k == c.timed) (nat_lt k (length p.timed)) h in
      (eqb-true k c.timed parts.0 ∙ same ∙ told-before.counted, ltb-true k (length p.timed) parts.1)

  next-turn : (k ≡ length (timed_of w)) × (k < length p.timed)
  next-turn = by_fresh fresh (may p w fresh (TimedAt k) sound)
    where
      joins : (c : Progress) → c.timed ≡ (progress p w).timed → may_join p c (TimedAt k) ≡ true → (k ≡ length (timed_of w)) × (k < length p.timed)
      joins c same m = turn-of c same (and_parts (in_turn p c (TimedAt k)) _ (and_parts _ _ m).0).0

      by_fresh : (b : Bool) → cond b (closes p (progress p w) && may_join p (past_group p (progress p w)) (TimedAt k)) (not (is_empty (progress p w).group) && may_join p (progress p w) (TimedAt k)) ≡ true → (k ≡ length (timed_of w)) × (k < length p.timed)
      by_fresh true m = joins (past_group p (progress p w)) refl (and_parts _ _ m).1
      by_fresh false m = joins (progress p w) refl (and_parts _ _ m).1

  pub next-item : (i : TimedItem) × (slice_get p.timed k ≡ Some i)
  next-item = there p.timed k next-turn.1

  pub next-place : k ≡ length (timed_of w)
  next-place = next-turn.0

-- it joins a group only behind another timed item
module _ (p : Problem) (w : List Mark) (k g : ℕ) (sound : Sound p (w ++ record { fresh = false; item = TimedAt k } ∷ [])) (is : groups w ≡ suc g) where
  told-here : Tells p w (λ g. items_in g w) (progress p w) (groups w) (acts_of p w) (timed_of w)
  told-here = tells-sound p w (front p w false (TimedAt k) sound)

  before-timed : (i : Item) → item_before i (TimedAt k) ≡ true → (j : ℕ) × (i ≡ TimedAt j)
  before-timed (TimedAt j) h = (j, refl)
  before-timed (End a) h = absurd cc
  before-timed (Start a) h = absurd cc

  stands-in : (o : Option ℕ) → some_and o (λ h. h == g) ≡ true → o ≡ Some g
  stands-in None h = absurd (false≢true h)
  stands-in (Some h) e = ap Some (eqb-true h g e)

  pub other-item : (j : ℕ) × (j < length (timed_of w)) × (slice_get (timed_of w) j ≡ Some g)
  other-item = by_group (progress p w).group refl (and_parts _ _ (may p w false (TimedAt k) sound)).0 (and_parts _ _ (and_parts _ _ (may p w false (TimedAt k) sound)).1).1
    where
      by_group : (is : List Item) → (progress p w).group ≡ is → not (is_empty is) ≡ true → list_all (λ j. item_before j (TimedAt k) && not (interfere p j (TimedAt k))) is ≡ true → (j : ℕ) × (j < length (timed_of w)) × (slice_get (timed_of w) j ≡ Some g)
      by_group [] e some all = absurd (false≢true some)
      by_group (i ∷ rest) e some all =
          let timed = before-timed i (and_parts _ _ (and_parts _ _ all).0).0 in
          let here : list_any (is_item (TimedAt timed.0)) (items_in g w) ≡ true = ap (list_any (is_item (TimedAt timed.0))) (told-here.current g (sym is) ∙ e) ∙ in-any (TimedAt timed.0) (i ∷ rest) (inl timed.1) in
          let at : slice_get (timed_of w) timed.0 ≡ Some g = stands-in (slice_get (timed_of w) timed.0) (sym (told-here.tells g (TimedAt timed.0)) ∙ here) in
          (timed.0, slice_get_within (timed_of w) timed.0 g at, at)
