-- The acts of a sound word in pairs, and against what runs after it.
use Rattle.std.proofs.Common.{◌≡◌, refl, sym, subst, ◌∙◌, ℕ, ◌+◌, ◌-◌, suc, ◌<◌, ◌≤◌, ◌==◌, ◌⊎◌, inl, inr, Bool, true, false, not, ◌&&◌, ◌||◌, cond, List, [], ◌∷◌, ◌++◌, Option, Some, None, arith, IsTrue}
use Rattle.std.specs.List.{AllByRecursion as Each, list_any, list_all}
use Rattle.std.proofs.lemmas.Bool.{and_parts, and_from, or_left, or_right, or_from, false≢true, eqb-true, eq-eqb, ltb-true}
use Rattle.std.proofs.lemmas.List.Folds.{list_any-append}
use Rattle.tp_spec.specs.declared.plan.Item.{Item}
use Rattle.tp_spec.specs.declared.plan.Item.TheVariants.{TimedAt, End, Start}
use Rattle.tp_spec.specs.declared.plan.Mark.{Mark}
use Rattle.tp_spec.specs.declared.problem.Problem.{Problem}
use Rattle.tp_spec.specs.Lists.{is_empty, IsIn}
use Rattle.tp_spec.specs.Items.{item_before, is_durative}
use Rattle.tp_spec.specs.Interference.{interfere}
use Rattle.tp_spec.specs.Words.{Progress, Act, Sound, Follow, may_follow, may_join, past_group, runs_after, read_mark, read_on, progress, with_item, at_start, is_start_of, is_end_of, groups, ended, with_act, acts_from, acts_of}
use Rattle.tp_laws.proofs.EarlyLists.{each-map, each-push, in-left, in-right}
use Rattle.tp_laws.proofs.Orders.{not-true}
use Rattle.tp_laws.proofs.ClockOpens.{ended-cons}
use Rattle.tp_laws.proofs.ValidOfLists.{Pairs, pairs-push}

-- Of two acts the first opens in an earlier group, or in the same one and has the smaller action.
-- Where both are of one action, it ends no later than the second opens.
pub record Behind (x y : Act) : Type 0 where
  pub order : (x.opens < y.opens) ⊎ ((x.opens ≡ y.opens) × (x.action < y.action))
  pub over : x.action ≡ y.action → (h : ℕ) × (x.closes ≡ Some h) × (h ≤ y.opens)

-- an act of the first n groups, which runs after the last one unless it has ended
pub record Placed (p : Problem) (n : ℕ) (c : Progress) (x : Act) : Type 0 where
  pub opened : (suc x.opens < n) ⊎ ((suc x.opens ≡ n) × IsIn (Start x.action) c.group)
  pub shut : (h : ℕ) → x.closes ≡ Some h → h < n
  pub runs : x.closes ≡ None → runs_after p c x.action ≡ true

-- what is kept while a word is read
pub record Kept (p : Problem) (n : ℕ) (c : Progress) (xs : List Act) : Type 0 where
  pub each : Each (Placed p n c) xs
  pub pairs : Pairs Behind xs

none≢some : {A : Type 0} {x : A} → None ≡ Some x → ⊥
none≢some e = absurd cc

-- the three ways of an act when an end is looked for
ended-by : (P : List Act → Type 0) (a g : ℕ) (x : Act) (xs : List Act) → ((k : ℕ) → x.closes ≡ Some k → P (x ∷ ended a g xs)) → (x.closes ≡ None → (x.action == a) ≡ false → P (x ∷ ended a g xs)) → (x.closes ≡ None → x.action ≡ a → P (record { action = x.action; opens = x.opens; closes = Some g } ∷ xs)) → P (ended a g (x ∷ xs))
ended-by P a g x xs over other here = by_end x.closes refl (x.action == a) refl where
  by_end : (o : Option ℕ) → x.closes ≡ o → (b : Bool) → (x.action == a) ≡ b → P (elim o as (λ _. List Act) [ Some k ↦ x ∷ ended a g xs | None ↦ cond b (record { action = x.action; opens = x.opens; closes = Some g } ∷ xs) (x ∷ ended a g xs) ])
  by_end (Some k) e b f = over k e
  by_end None e true f = here e (eqb-true x.action a f)
  by_end None e false f = other e f

module _ (p : Problem) where
  -- what runs after a group runs after it with one item more, unless that is its end
  runs-more : (c : Progress) (i : Item) (a : ℕ) → is_end_of a i ≡ false → runs_after p c a ≡ true → runs_after p (with_item c i) a ≡ true
  runs-more c i a e h =
      (λ k. (list_any-append (is_start_of a) c.group (i ∷ []) k && is_durative p a) || (c.running a && not (list_any-append (is_end_of a) c.group (i ∷ []) k)))
      ∙ more (list_any (is_start_of a) c.group) (is_durative p a) (c.running a) (list_any (is_end_of a) c.group) (is_start_of a i) (is_end_of a i) e h
    where
      more : (s d r e u v : Bool) → v ≡ false → ((s && d) || (r && not e)) ≡ true → (((s || (u || false)) && d) || (r && not (e || (v || false)))) ≡ true
      more s d r e u true f h = absurd (false≢true (sym f))
      more true true r e u false f h = refl
      more true false true true u false f h = absurd (false≢true h)
      more true false true false u false f h = refl
      more true false false e u false f h = absurd (false≢true h)
      more false d true true u false f h = absurd (false≢true h)
      more false d true false u false f h = or_right ((u || false) && d) true refl
      more false d false e u false f h = absurd (false≢true h)

  opened-more : (n : ℕ) (c : Progress) (i : Item) (x : Act) → (suc x.opens < n) ⊎ ((suc x.opens ≡ n) × IsIn (Start x.action) c.group) → (suc x.opens < n) ⊎ ((suc x.opens ≡ n) × IsIn (Start x.action) (c.group ++ i ∷ []))
  opened-more n c i x (inl b) = inl b
  opened-more n c i x (inr e) = inr (e.0, in-left (Start x.action) c.group (i ∷ []) e.1)

  placed-more : (n : ℕ) (c : Progress) (i : Item) (x : Act) → is_end_of x.action i ≡ false → Placed p n c x → Placed p n (with_item c i) x
  placed-more n c i x e h = record {
    opened = opened-more n c i x h.opened;
    shut = h.shut;
    runs = λ o. runs-more c i x.action e (h.runs o);
  }

  -- the group closed, and the next one opened
  placed-past : (n : ℕ) (c : Progress) (x : Act) → Placed p n c x → Placed p (n + 1) (past_group p c) x
  placed-past n c x h = record {
    opened = inl (before h.opened);
    shut = λ k e. let b : k < n = h.shut k e in omega (arith, b);
    runs = λ o. stays (runs_after p c x.action) (h.runs o);
  }
    where
      before : (suc x.opens < n) ⊎ ((suc x.opens ≡ n) × IsIn (Start x.action) c.group) → suc x.opens < n + 1
      before (inl b) = omega (arith, b)
      before (inr e) = omega (arith, e.0)

      stays : (b : Bool) → b ≡ true → (b && true) ≡ true
      stays true e = refl
      stays false e = e

  kept-past : (n : ℕ) (c : Progress) (xs : List Act) → Kept p n c xs → Kept p (n + 1) (past_group p c) xs
  kept-past n c xs h = record { each = each-map (Placed p n c) (Placed p (n + 1) (past_group p c)) xs (placed-past n c) h.each; pairs = h.pairs }

  -- an end
  module _ (a g n : ℕ) (c : Progress) (last : suc g ≡ n) where
    not-ended : (x : Act) → (x.action == a) ≡ false → Placed p n c x → Placed p n (with_item c (End a)) x
    not-ended x e h = placed-more n c (End a) x e h

    none-more : (x : Act) (xs : List Act) → x.closes ≡ None → x.action ≡ a → Each (Placed p n c) xs → Each (Behind x) xs → Each (Placed p n (with_item c (End a))) xs
    none-more x [] o e h r = tt
    none-more x (y ∷ ys) o e h r = (not-ended y (by_test (y.action == a) refl) h.0, none-more x ys o e h.1 r.1) where
      by_test : (b : Bool) → (y.action == a) ≡ b → (y.action == a) ≡ false
      by_test true f = absurd (none≢some (sym o ∙ (r.0.over (e ∙ sym (eqb-true y.action a f))).1))
      by_test false f = f

    ended-each : (xs : List Act) → Each (Placed p n c) xs → Pairs Behind xs → Each (Placed p n (with_item c (End a))) (ended a g xs)
    ended-each [] h r = tt
    ended-each (x ∷ xs) h r = ended-by (Each (Placed p n (with_item c (End a)))) a g x xs
        (λ k e. (record { opened = opened-more n c (End a) x h.0.opened; shut = h.0.shut; runs = λ o. absurd (none≢some (sym o ∙ e)) }, ended-each xs h.1 r.1))
        (λ o e. (not-ended x e h.0, ended-each xs h.1 r.1))
        (λ o e. (record { opened = opened-more n c (End a) x h.0.opened; shut = λ k f. let s : g ≡ k = cc in omega (arith, s, last); runs = λ f. absurd (none≢some (sym f)) }, none-more x xs o e h.1 r.0))

    behind-ended : (x : Act) (xs : List Act) → Each (Behind x) xs → Each (Behind x) (ended a g xs)
    behind-ended x [] r = tt
    behind-ended x (y ∷ ys) r = ended-cons (Each (Behind x)) a g y ys (r.0, behind-ended x ys r.1) (record { order = r.0.order; over = r.0.over }, r.1)

    closed-behind : (x : Act) (xs : List Act) → x.closes ≡ None → Each (Behind x) xs → Each (Behind (record { action = x.action; opens = x.opens; closes = Some g })) xs
    closed-behind x xs o r = each-map (Behind x) _ xs (λ y b. record { order = b.order; over = λ e. absurd (none≢some (sym o ∙ (b.over e).1)) }) r

    ended-pairs : (xs : List Act) → Pairs Behind xs → Pairs Behind (ended a g xs)
    ended-pairs [] r = tt
    ended-pairs (x ∷ xs) r = ended-by (Pairs Behind) a g x xs
        (λ k e. (behind-ended x xs r.0, ended-pairs xs r.1))
        (λ o e. (behind-ended x xs r.0, ended-pairs xs r.1))
        (λ o e. (closed-behind x xs o r.0, r.1))

  -- a start
  none-started : (a : ℕ) (is : List Item) → list_all (λ j. item_before j (Start a) && not (interfere p j (Start a))) is ≡ true → list_any (is_start_of a) is ≡ false
  none-started a [] h = refl
  none-started a (i ∷ is) h = or_from _ _ (other i (and_parts _ _ (and_parts _ _ h).0).0) (none-started a is (and_parts _ _ h).1) where
    other : (j : Item) → item_before j (Start a) ≡ true → is_start_of a j ≡ false
    other (TimedAt k) b = refl
    other (End k) b = refl
    other (Start k) b = by_test (a == k) refl where
      by_test : (c : Bool) → (a == k) ≡ c → (a == k) ≡ false
      by_test true e = let lt : k < a = ltb-true k a b in let same : a ≡ k = eqb-true a k e in absurd (omega (arith, lt, same))
      by_test false e = e

  below : (a b : ℕ) (is : List Item) → list_all (λ j. item_before j (Start a) && not (interfere p j (Start a))) is ≡ true → IsIn (Start b) is → b < a
  below a b [] h i = absurd i
  below a b (j ∷ is) h (inl e) = ltb-true b a (subst (λ k. item_before k (Start a) ≡ true) e (and_parts _ _ (and_parts _ _ h).0).0)
  below a b (j ∷ is) h (inr i) = below a b is (and_parts _ _ h).1 i

  -- what a start asks bars a running act of its action
  not-running : (s d r e : Bool) → s ≡ false → (not r || e) ≡ true → ((s && d) || (r && not e)) ≡ true → ⊥
  not-running true d r e f g h = false≢true (sym f)
  not-running false d true true f g h = false≢true h
  not-running false d true false f g h = false≢true g
  not-running false d false e f g h = false≢true h

  abbrev new_act : ℕ → ℕ → Act
  new_act a g = record { action = a; opens = g; closes = cond (is_durative p a) None (Some g) }

  apart-of : (a : ℕ) (c : Progress) → may_join p c (Start a) ≡ true → list_all (λ j. item_before j (Start a) && not (interfere p j (Start a))) c.group ≡ true
  apart-of a c may = (and_parts _ _ may).1

  turn-of : (a : ℕ) (c : Progress) → may_join p c (Start a) ≡ true → (not (c.running a) || list_any (is_end_of a) c.group) ≡ true
  turn-of a c may = (and_parts _ _ (and_parts _ _ (and_parts _ _ may).0).0).1

  behind-new : (a g n : ℕ) (c : Progress) (x : Act) → suc g ≡ n → may_join p c (Start a) ≡ true → Placed p n c x → Behind x (new_act a g)
  behind-new a g n c x last may h = record { order = by_place h.opened; over = λ e. by_closes e x.closes refl } where
    by_place : (suc x.opens < n) ⊎ ((suc x.opens ≡ n) × IsIn (Start x.action) c.group) → (x.opens < g) ⊎ ((x.opens ≡ g) × (x.action < a))
    by_place (inl b) = inl (omega (arith, b, last))
    by_place (inr e) = inr (omega (arith, e.0, last), below a x.action c.group (apart-of a c may) e.1)

    by_closes : x.action ≡ a → (o : Option ℕ) → x.closes ≡ o → (h : ℕ) × (x.closes ≡ Some h) × (h ≤ g)
    by_closes e None f = absurd (not-running (list_any (is_start_of a) c.group) (is_durative p a) (c.running a) (list_any (is_end_of a) c.group) (none-started a c.group (apart-of a c may)) (turn-of a c may) (subst (λ b. runs_after p c b ≡ true) e (h.runs f)))
    by_closes e (Some k) f = let b : k < n = h.shut k f in (k, f, omega (arith, b, last))

  placed-new : (a g n : ℕ) (c : Progress) → suc g ≡ n → Placed p n (with_item c (Start a)) (new_act a g)
  placed-new a g n c last = record {
    opened = inr (last, in-right (Start a) c.group (Start a ∷ []) (inl refl));
    shut = λ h e. shut (is_durative p a) h e;
    runs = λ e. runs (is_durative p a) refl e;
  }
    where
      shut : (b : Bool) (h : ℕ) → cond b None (Some g) ≡ Some h → h < n
      shut true h e = absurd (none≢some e)
      shut false h e = let s : g ≡ h = cc in omega (arith, s, last)

      runs : (b : Bool) → is_durative p a ≡ b → cond b None (Some g) ≡ None → runs_after p (with_item c (Start a)) a ≡ true
      runs true d e = or_left _ _ (and_from _ _ (list_any-append (is_start_of a) c.group (Start a ∷ []) ∙ or_right (list_any (is_start_of a) c.group) _ (or_left _ _ (eq-eqb a a refl))) d)
      runs false d e = absurd (none≢some (sym e))

  kept-item : (g n : ℕ) (c : Progress) (i : Item) (xs : List Act) → suc g ≡ n → may_join p c i ≡ true → Kept p n c xs → Kept p n (with_item c i) (with_act p g i xs)
  kept-item g n c (TimedAt k) xs last may h = record { each = each-map (Placed p n c) (Placed p n (with_item c (TimedAt k))) xs (λ x q. placed-more n c (TimedAt k) x refl q) h.each; pairs = h.pairs }
  kept-item g n c (End a) xs last may h = record { each = ended-each a g n c last xs h.each h.pairs; pairs = ended-pairs a g n c last xs h.pairs }
  kept-item g n c (Start a) xs last may h = record {
    each = each-push (Placed p n (with_item c (Start a))) xs (new_act a g) (each-map (Placed p n c) (Placed p n (with_item c (Start a))) xs (λ x q. placed-more n c (Start a) x refl q) h.each) (placed-new a g n c last);
    pairs = pairs-push Behind xs (new_act a g) h.pairs (each-map (Placed p n c) (λ x. Behind x (new_act a g)) xs (λ x q. behind-new a g n c x last may q) h.each);
  }

  -- one mark more
  kept-mark : (n : ℕ) (c : Progress) (b : Bool) (i : Item) (xs : List Act) → (is_empty c.group ≡ false → 0 < n) → IsTrue (may_follow p c (record { fresh = b; item = i })) → Kept p n c xs
      → (0 < cond b (n + 1) n) × Kept p (cond b (n + 1) n) (read_mark p c (record { fresh = b; item = i })) (with_act p (cond b (n + 1) n - 1) i xs)
  kept-mark n c true i xs some may h = (omega arith, kept-item (n + 1 - 1) (n + 1) (past_group p c) i xs (omega arith) (and_parts _ _ may).1 (kept-past n c xs h))
  kept-mark n c false i xs some may h =
      let pos : 0 < n = some (not-true (is_empty c.group) (and_parts _ _ may).0) in
      (pos, kept-item (n - 1) n c i xs (omega (arith, pos)) (and_parts _ _ may).1 h)

  kept-on : (n : ℕ) (c : Progress) (w : List Mark) (xs : List Act) → (is_empty c.group ≡ false → 0 < n) → Follow p c w → Kept p n c xs → (top : ℕ) → n + groups w ≡ top → Kept p top (read_on p c w) (acts_from p n w xs)
  kept-on n c [] xs some f h top e = let same : n ≡ top = omega (arith, e) in subst (λ (k : ℕ). Kept p k c xs) same h
  kept-on n c (m ∷ w) xs some f h top e =
      let k : ℕ = cond m.fresh (n + 1) n in
      let one = kept-mark n c m.fresh m.item xs some f.0 h in
      kept-on k (read_mark p c m) w (with_act p (k - 1) m.item xs) (λ q. one.0) f.1 one.1 top (count m.fresh e)
    where
      count : (b : Bool) → n + (cond b 1 0 + groups w) ≡ top → cond b (n + 1) n + groups w ≡ top
      count true q = omega (arith, q)
      count false q = omega (arith, q)

  pub kept : (w : List Mark) → Sound p w → Kept p (groups w) (progress p w) (acts_of p w)
  kept w sound = kept-on 0 (at_start p) w [] (λ e. absurd (false≢true (sym e))) sound.follows (record { each = tt; pairs = tt }) (groups w) (omega arith)
