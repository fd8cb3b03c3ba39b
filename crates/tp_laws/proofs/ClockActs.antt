-- What a sound word gives: acts of the problem's actions, in its groups, and timed items in its groups.
use Rattle.std.proofs.Common.{◌≡◌, ℕ, zero, suc, ◌+◌, ◌-◌, ◌<◌, ◌≤◌, Bool, true, false, cond, List, [], ◌∷◌, ◌++◌, length, Option, Some, None, refl, sym, subst, arith}
use Rattle.std.specs.Prelude.{IfSome, IsTrue, slice_get, not}
use Rattle.std.specs.List.{AllByRecursion as Each}
use Rattle.std.proofs.lemmas.Bool.{false≢true, and_parts, ltb-true}
use Rattle.tp_spec.specs.declared.plan.Item.{Item}
use Rattle.tp_spec.specs.declared.plan.Item.TheVariants.{TimedAt, End, Start}
use Rattle.tp_spec.specs.declared.plan.Mark.{Mark}
use Rattle.tp_spec.specs.declared.problem.Action.{Action}
use Rattle.tp_spec.specs.declared.problem.Problem.{Problem}
use Rattle.tp_spec.specs.Lists.{is_empty}
use Rattle.tp_spec.specs.Items.{is_durative}
use Rattle.tp_spec.specs.Words.{Act, Progress, Follow, may_follow, in_turn, past_group, read_mark, with_item, at_start, groups, ended, with_act, acts_from, acts_of, timed_group, timed_from, timed_of}
use Rattle.tp_laws.specs.Clocks.{SoundHasActsInGroups}
use Rattle.tp_laws.proofs.ClockOpens.{ended-cons}
use Rattle.tp_laws.proofs.EarlyLists.{each-in, each-map}

pub each-append : {A : Type 0} (P : A → Type 0) (xs ys : List A) → Each P xs → Each P ys → Each P (xs ++ ys)
each-append P [] ys h k = k
each-append P (x ∷ xs) ys h k = (h.0, each-append P xs ys h.1 k)

-- an act of one of the problem's actions, in the first n groups
pub record Fits (p : Problem) (n : ℕ) (a : Act) : Type 0 where
  pub known : (x : Action) × (slice_get p.actions a.action ≡ Some x)
  pub opens : a.opens < n
  pub closes : IfSome a.closes (λ g. g < n)

closes_up : (n m : ℕ) (o : Option ℕ) → n ≤ m → IfSome o (λ g. g < n) → IfSome o (λ g. g < m)
closes_up n m None le h = tt
closes_up n m (Some g) le h = omega arith

fits-up : (p : Problem) (n m : ℕ) (xs : List Act) → n ≤ m → Each (Fits p n) xs → Each (Fits p m) xs
fits-up p n m xs le h = each-map (Fits p n) (Fits p m) xs (λ a f. record { known = f.known; opens = omega (arith, f.opens); closes = closes_up n m a.closes le f.closes }) h

ended-fits : (p : Problem) (n a g : ℕ) (xs : List Act) → g < n → Each (Fits p n) xs → Each (Fits p n) (ended a g xs)
ended-fits p n a g [] b h = tt
ended-fits p n a g (x ∷ xs) b h = ended-cons (Each (Fits p n)) a g x xs (h.0, ended-fits p n a g xs b h.1) (record { known = h.0.known; opens = h.0.opens; closes = b }, h.1)

pub there : {A : Type 0} (xs : List A) (k : ℕ) → k < length xs → (x : A) × (slice_get xs k ≡ Some x)
there [] k b = absurd (omega arith)
there (x ∷ xs) zero b = (x, refl)
there (x ∷ xs) (suc k) b = there xs k (omega arith)

closing : (b : Bool) (g n : ℕ) → g < n → IfSome (cond b None (Some g)) (λ h. h < n)
closing true g n lt = tt
closing false g n lt = lt

with-fits : (p : Problem) (c : Progress) (n g : ℕ) (i : Item) (xs : List Act) → g < n → in_turn p c i ≡ true → Each (Fits p n) xs → Each (Fits p n) (with_act p g i xs)
with-fits p c n g (TimedAt k) xs b may h = h
with-fits p c n g (End a) xs b may h = ended-fits p n a g xs b h
with-fits p c n g (Start a) xs b may h =
    each-append (Fits p n) xs (record { action = a; opens = g; closes = cond (is_durative p a) None (Some g) } ∷ []) h
    (record { known = there p.actions a (ltb-true a (length p.actions) (and_parts _ _ may).0); opens = b; closes = closing (is_durative p a) g n b }, tt)

timed-fits : (n g : ℕ) (i : Item) → g < n → Each (λ k. k < n) (timed_group g i)
timed-fits n g (TimedAt k) b = (b, tt)
timed-fits n g (End a) b = tt
timed-fits n g (Start a) b = tt

-- what is kept while a word is read
pub record Reads (p : Problem) (n : ℕ) (w : List Mark) (xs : List Act) : Type 0 where
  pub acts : Each (Fits p (n + groups w)) (acts_from p n w xs)
  pub timed : Each (λ g. g < n + groups w) (timed_from n w)

not_empty : (b : Bool) → not b ≡ true → b ≡ false
not_empty true e = absurd (false≢true e)
not_empty false e = refl

reads : (p : Problem) (c : Progress) (n : ℕ) (w : List Mark) (xs : List Act) → (is_empty c.group ≡ false → 0 < n) → Follow p c w → Each (Fits p n) xs → Reads p n w xs
reads p c n [] xs some r h = record { acts = fits-up p n (n + 0) xs (omega arith) h; timed = tt }
reads p c n (m ∷ w) xs some r h = by_fresh (λ d k ys. reads p d k w ys) m.fresh m.item r.0 r.1
  where
    -- one item in the last of k groups
    go : ((d : Progress) (k : ℕ) (ys : List Act) → (is_empty d.group ≡ false → 0 < k) → Follow p d w → Each (Fits p k) ys → Reads p k w ys) → (d : Progress) (k : ℕ) (i : Item) → 0 < k → n ≤ k → in_turn p d i ≡ true → Follow p (with_item d i) w → (top : ℕ) → k + groups w ≡ top → Each (Fits p top) (acts_from p k w (with_act p (k - 1) i xs)) × Each (λ g. g < top) (timed_group (k - 1) i ++ timed_from k w)
    go again d k i pos le may rest top is =
        let s = again (with_item d i) k (with_act p (k - 1) i xs) (λ _. pos) rest (with-fits p d k (k - 1) i xs (omega arith) may (fits-up p n k xs le h)) in (
          subst (λ (j : ℕ). Each (Fits p j) (acts_from p k w (with_act p (k - 1) i xs))) is s.acts,
          each-append (λ g. g < top) (timed_group (k - 1) i) (timed_from k w) (timed-fits top (k - 1) i (omega arith)) (subst (λ (j : ℕ). Each (λ g. g < j) (timed_from k w)) is s.timed),
        )

    by_fresh : ((d : Progress) (k : ℕ) (ys : List Act) → (is_empty d.group ≡ false → 0 < k) → Follow p d w → Each (Fits p k) ys → Reads p k w ys) → (b : Bool) (i : Item) → IsTrue (may_follow p c (record { fresh = b; item = i })) → Follow p (read_mark p c (record { fresh = b; item = i })) w → Reads p n (record { fresh = b; item = i } ∷ w) xs
    by_fresh again true i may rest =
        let s = go again (past_group p c) (n + 1) i (omega arith) (omega arith) (and_parts _ _ (and_parts _ _ (and_parts _ _ may).1).0).0 rest (n + (1 + groups w)) (omega arith) in
        record { acts = s.0; timed = s.1 }
    by_fresh again false i may rest =
        let s = go again c n i (some (not_empty (is_empty c.group) (and_parts _ _ may).0)) (omega arith) (and_parts _ _ (and_parts _ _ (and_parts _ _ may).1).0).0 rest (n + (0 + groups w)) (omega arith) in
        record { acts = s.0; timed = s.1 }

pub sound-acts : SoundHasActsInGroups
sound-acts p w sound =
    let s = reads p (at_start p) 0 w [] (λ e. absurd (false≢true (sym e))) sound.follows tt in
    let whole : 0 + groups w ≡ groups w = omega arith in
    let acts = subst (λ (n : ℕ). Each (Fits p n) (acts_of p w)) whole s.acts in
    let timed = subst (λ (n : ℕ). Each (λ g. g < n) (timed_of w)) whole s.timed in
    record {
      known = λ a i. (each-in (Fits p (groups w)) (acts_of p w) a acts i).known;
      opens = λ a i. (each-in (Fits p (groups w)) (acts_of p w) a acts i).opens;
      closes = λ a i. (each-in (Fits p (groups w)) (acts_of p w) a acts i).closes;
      timed = λ g i. each-in (λ k. k < groups w) (timed_of w) g timed i;
    }
