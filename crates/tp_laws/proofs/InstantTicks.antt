-- Rising ticks of groups: how far apart they are, and what the timed items and the first start tell of them.
use Rattle.std.proofs.Common.{◌≡◌, refl, sym, ap, subst, ◌∙◌, ℕ, zero, suc, ◌+◌, ◌-◌, ◌<◌, ◌≤◌, ◌⊎◌, inl, inr, true, List, [], ◌∷◌, length, Option, Some, None, arith, IfSome, slice_get}
use Rattle.std.proofs.Math.Nat.{min-le_left, min-le_right, le-min}
use Rattle.std.proofs.lemmas.Bool.{cases_lt, ltb-true}
use Rattle.std.proofs.lemmas.Option.{slice_get_within, slice_get_past}
use Rattle.tp_spec.specs.declared.plan.Limits.{Limits}
use Rattle.tp_spec.specs.declared.plan.Mark.{Mark}
use Rattle.tp_spec.specs.declared.problem.Problem.{Problem}
use Rattle.tp_spec.specs.declared.problem.TimedItem.{TimedItem}
use Rattle.tp_spec.specs.Lists.{IsIn}
use Rattle.tp_spec.specs.Words.{Act, Sound, groups, acts_of, timed_of}
use Rattle.tp_laws.specs.Instants.{first_group, last_group, tick_in, tick_of, ticks_in}
use Rattle.tp_laws.proofs.EarlyLists.{Rising, each-in}
use Rattle.tp_laws.proofs.ClockOpens.{InOrder, AllFrom, acts-rise}
use Rattle.tp_laws.proofs.ClockLaws.{ticks_rise}
use Rattle.tp_laws.proofs.ClockCandidates.{past_end}
use Rattle.tp_laws.proofs.ClockCommits.{in_get}
use Rattle.tp_laws.proofs.ClockActs.{there, sound-acts}
use Rattle.tp_laws.proofs.TellOfWords.{tells-sound}
use Rattle.tp_laws.proofs.WordOfTimes.{sooner}
use Rattle.tp_laws.proofs.InstantActs.{Placed}

-- a tick at least for each group
pub far : (n : ℕ) (t : ℕ → ℕ) → ((g : ℕ) → suc g < n → t g < t (suc g)) → (g k : ℕ) → g ≤ k → k < n → t g + (k - g) ≤ t k
far n t rises g zero le b = let e : 0 ≡ g = omega (arith, le) in subst (λ (j : ℕ). t j + (0 - j) ≤ t 0) e (omega arith)
far n t rises g (suc k) le b = by_order (λ lt. far n t rises g k lt (omega (arith, b))) (cases_lt g (suc k))
  where
    by_order : (g ≤ k → t g + (k - g) ≤ t k) → (g < suc k) ⊎ (suc k ≤ g) → t g + (suc k - g) ≤ t (suc k)
    by_order ih (inl lt) = let before : t g + (k - g) ≤ t k = ih (omega (arith, lt)) in omega (arith, before, rises k b, lt)
    by_order ih (inr ge) = let e : suc k ≡ g = omega (arith, le, ge) in subst (λ (j : ℕ). t j + (suc k - j) ≤ t (suc k)) e (omega arith)

-- up to the horizon and before the next timed item
pub under : (n t : ℕ) (o : Option TimedItem) → t < n → IfSome o (λ i. t < i.tick) → t < ticks_in n o
under n t None lt h = lt
under n t (Some i) lt h = le-min {k = suc t} lt h

pub under-all : (n t : ℕ) (o : Option TimedItem) → t < ticks_in n o → t < n
under-all n t None h = h
under-all n t (Some i) h = omega (arith, h, min-le_left n i.tick)

pub under-next : (n t : ℕ) (o : Option TimedItem) → t < ticks_in n o → IfSome o (λ i. t < i.tick)
under-next n t None h = tt
under-next n t (Some i) h = omega (arith, h, min-le_right n i.tick)

-- timed items come at rising ticks
pub in-turn : (xs : List TimedItem) → Rising sooner xs → (j k : ℕ) (x y : TimedItem) → j < k → slice_get xs j ≡ Some x → slice_get xs k ≡ Some y → x.tick < y.tick
in-turn [] r j k x y lt d e = absurd cc
in-turn (z ∷ xs) r j zero x y lt d e = absurd (omega (arith, lt))
in-turn (z ∷ xs) r zero (suc k) x y lt d e =
    let same : z ≡ x = cc in
    subst (λ (q : TimedItem). q.tick < y.tick) same (ltb-true z.tick y.tick (each-in (λ q. sooner z q ≡ true) xs y r.0 (in_get xs k y e)))
in-turn (z ∷ xs) r (suc j) (suc k) x y lt d e = in-turn xs r.1 j k x y (omega (arith, lt)) d e

-- what a sound word gives of its acts and the groups of its timed items
pub record Facts (p : Problem) (n : ℕ) (xs : List Act) (ts : List ℕ) : Type 0 where
  pub order : InOrder xs
  pub opens : (x : Act) → IsIn x xs → x.opens < n
  pub timed : (g : ℕ) → IsIn g ts → g < n
  pub bounded : length ts ≤ length p.timed

pub facts : (p : Problem) (w : List Mark) → Sound p w → Facts p (groups w) (acts_of p w) (timed_of w)
facts p w sound = record {
  order = (acts-rise p w).order;
  opens = (sound-acts p w sound).opens;
  timed = (sound-acts p w sound).timed;
  bounded = (tells-sound p w sound).bounded;
}

from-in : (g : ℕ) (xs : List Act) → AllFrom g xs → (a : Act) → IsIn a xs → g ≤ a.opens
from-in g [] h a i = absurd i
from-in g (x ∷ xs) h a (inl e) = subst (λ (y : Act). g ≤ y.opens) e h.0
from-in g (x ∷ xs) h a (inr i) = from-in g xs h.1 a i

leads : (f : ℕ) (xs : List Act) → InOrder xs → first_group xs ≡ Some f → (a : Act) → IsIn a xs → f ≤ a.opens
leads f [] o e a i = absurd i
leads f (x ∷ xs) o e a (inl s) = let same : x.opens ≡ f = cc in omega (arith, ap (λ (y : Act). y.opens) s, same)
leads f (x ∷ xs) o e a (inr i) = let same : x.opens ≡ f = cc in omega (arith, from-in x.opens xs o.0 a i, same)

pub leader : (f : ℕ) (xs : List Act) → first_group xs ≡ Some f → (a : Act) × IsIn a xs × (a.opens ≡ f)
leader f [] e = absurd cc
leader f (x ∷ xs) e = (x, inl refl, cc)

pub no-acts : (xs : List Act) → first_group xs ≡ None → xs ≡ []
no-acts [] e = refl
no-acts (x ∷ xs) e = absurd cc

pub no-items : (ts : List ℕ) → last_group ts ≡ None → (k : ℕ) → slice_get ts k ≡ None
no-items ts e k = slice_get_past ts k (omega (arith, past_end ts (length ts - 1) e))

module _ (p : Problem) (n : ℕ) (xs : List Act) (ts : List ℕ) (known : Facts p n xs ts) where
  -- the first start is in one of the groups, and the others come with it or behind it
  pub first-inside : (f : ℕ) → first_group xs ≡ Some f → f < n
  first-inside f e = let a = leader f xs e in omega (arith, known.opens a.0 a.1, a.2)

  pub from-first : (now f : ℕ) (t : ℕ → ℕ) → ((g : ℕ) → suc g < n → t g < t (suc g)) → first_group xs ≡ Some f → now ≤ t f → (a : Act) → IsIn a xs → now ≤ t a.opens
  from-first now f t rises e le a i =
      let inside = known.opens a i in
      omega (arith, le, ticks_rise n t rises f a.opens (leads f xs known.order e a i) (omega (arith, inside)))

  module _ (l : Limits) (now : ℕ) (t : ℕ → ℕ) (at : Placed p l now n xs ts t) where
    pub first-from : (f : ℕ) → first_group xs ≡ Some f → now ≤ t f
    first-from f e = let a = leader f xs e in subst (λ (g : ℕ). now ≤ t g) a.2 (at.from a.0 a.1)

    pub timed-tick : (k g : ℕ) → slice_get ts k ≡ Some g → (i : TimedItem) × (slice_get p.timed k ≡ Some i) × (t g ≡ i.tick)
    timed-tick k g e =
        let i = there p.timed k (omega (arith, slice_get_within ts k g e, known.bounded)) in
        let asked : IfSome (slice_get p.timed k) (λ i. t g ≡ i.tick) = subst (λ o. IfSome o (λ g. IfSome (slice_get p.timed k) (λ i. t g ≡ i.tick))) e (at.timed k) in
        (i.0, i.1, subst (λ o. IfSome o (λ i. t g ≡ i.tick)) i.1 asked)

    pub last-tick : (h : ℕ) → last_group ts ≡ Some h → t h ≡ tick_of p (length ts - 1)
    last-tick h e = let i = timed-tick (length ts - 1) h e in i.2 ∙ ap tick_in (sym i.1)

    pub last-inside : (h : ℕ) → last_group ts ≡ Some h → h < n
    last-inside h e = known.timed h (in_get ts (length ts - 1) h e)

    -- no timed item stands behind the last one
    pub low : Rising sooner p.timed → (h k g : ℕ) → last_group ts ≡ Some h → slice_get ts k ≡ Some g → g ≤ h
    low sorted h k g last e = by_order (cases_lt h g)
      where
        no-later : (i j : TimedItem) → slice_get p.timed k ≡ Some i → slice_get p.timed (length ts - 1) ≡ Some j → (k < length ts - 1) ⊎ (length ts - 1 ≤ k) → i.tick ≤ j.tick
        no-later i j d e (inl lt) = omega (arith, in-turn p.timed sorted k (length ts - 1) i j lt d e)
        no-later i j d f (inr ge) =
            let same : length ts - 1 ≡ k = omega (arith, ge, slice_get_within ts k g e) in
            let both : Some j ≡ Some i = sym f ∙ ap (slice_get p.timed) same ∙ d in
            let alike : j ≡ i = cc in
            subst (λ (q : TimedItem). q.tick ≤ j.tick) alike (omega arith)

        by_order : (h < g) ⊎ (g ≤ h) → g ≤ h
        by_order (inr le) = le
        by_order (inl lt) =
            let mine = timed-tick k g e in
            let its = timed-tick (length ts - 1) h last in
            let apart : t h + (g - h) ≤ t g = far n t at.rises h g (omega (arith, lt)) (known.timed g (in_get ts k g e)) in
            absurd (omega (arith, lt, apart, mine.2, its.2, no-later mine.0 its.0 mine.1 its.1 (cases_lt k (length ts - 1))))
