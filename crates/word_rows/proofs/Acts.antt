-- What each act asks, with its commitment; the last group; places of running acts.
use Rattle.std.proofs.Common.{◌≡◌, ℕ, zero, suc, ◌<◌, ◌≤◌, Bool, true, false, cond, eqb, List, [], ◌∷◌, length, Option, Some, None, refl, sym, ap, arith, ◌∙◌, ◌⊎◌, inl, inr}
use Rattle.std.specs.Prelude.{IfSome, slice_get, not, is_some}
use Rattle.std.specs.List.{AllByRecursion as Each}
use Rattle.std.proofs.lemmas.Bool.{eqb-false}
use Rattle.tp_spec.specs.declared.plan.Timed.{Timed}
use Rattle.tp_spec.specs.declared.problem.TimedItem.{TimedItem}
use Rattle.tp_spec.specs.Lists.{IsIn}
use Rattle.tp_spec.specs.Words.{Act}
use Rattle.tp_spec.specs.Schedules.{commits_by}
use Rattle.tp_laws.proofs.ClockKth.{EachWith}
use Rattle.word_rows.specs.declared.bound.Bound.{Bound}
use Rattle.word_rows.specs.Rows.{by_acts, seen_more, open_acts, place, next_bounds}
use Rattle.tp_laws.proofs.ClockActs.{each-append}
use Rattle.word_rows.proofs.Pieces.{each-front, each-back}

pub each-two : {A : Type 0} (P Q R : A → Type 0) (xs : List A) → ((a : A) → P a → Q a → R a) → Each P xs → Each Q xs → Each R xs
each-two P Q R [] f h k = tt
each-two P Q R (x ∷ xs) f h k = (f x h.0 k.0, each-two P Q R xs f h.1 k.1)

pub by-acts-to : (P : Act → Option Timed → Type 0) (Q : Bound → Type 0) (f : Act → Option Timed → List Bound) (c : List Timed) (seen : ℕ → ℕ) (acts : List Act) → ((a : Act) (o : Option Timed) → IsIn a acts → P a o → Each Q (f a o)) → EachWith P c seen acts → Each Q (by_acts f c seen acts)
by-acts-to P Q f c seen [] h e = tt
by-acts-to P Q f c seen (a ∷ acts) h e =
    each-append Q (f a (slice_get (commits_by a.action c) (seen a.action))) (by_acts f c (seen_more a.action seen) acts)
    (h a (slice_get (commits_by a.action c) (seen a.action)) (inl refl) e.0)
    (by-acts-to P Q f c (seen_more a.action seen) acts (λ b o i. h b o (inr i)) e.1)

pub by-acts-from : (P : Act → Option Timed → Type 0) (Q R : Bound → Type 0) (f g : Act → Option Timed → List Bound) (c : List Timed) (seen : ℕ → ℕ) (acts : List Act) → ((a : Act) (o : Option Timed) → IsIn a acts → Each Q (f a o) → Each R (g a o) → P a o) → Each Q (by_acts f c seen acts) → Each R (by_acts g c seen acts) → EachWith P c seen acts
by-acts-from P Q R f g c seen [] h q r = tt
by-acts-from P Q R f g c seen (a ∷ acts) h q r =
    let o = slice_get (commits_by a.action c) (seen a.action) in
    let more = seen_more a.action seen in (
      h a o (inl refl) (each-front Q (f a o) (by_acts f c more acts) q) (each-front R (g a o) (by_acts g c more acts) r),
      by-acts-from P Q R f g c more acts (λ b u i. h b u (inr i)) (each-back Q (f a o) (by_acts f c more acts) q) (each-back R (g a o) (by_acts g c more acts) r),
    )

-- a fact at each timed item, moved from one function of groups to another
pub times-link : (t u : ℕ → ℕ) (gs : List ℕ) (q : ℕ → Option TimedItem) → ((g : ℕ) → IsIn g gs → t g ≡ u g) → ((k : ℕ) → IfSome (slice_get gs k) (λ g. IfSome (q k) (λ i. u g ≡ i.tick))) → (k : ℕ) → IfSome (slice_get gs k) (λ g. IfSome (q k) (λ i. t g ≡ i.tick))
times-link t u [] q e h k = tt
times-link t u (g ∷ gs) q e h zero = at (q 0) (h 0)
  where
    at : (o : Option TimedItem) → IfSome o (λ i. u g ≡ i.tick) → IfSome o (λ i. t g ≡ i.tick)
    at None h = tt
    at (Some i) h = e g (inl refl) ∙ h
times-link t u (g ∷ gs) q e h (suc k) = times-link t u gs (λ j. q (suc j)) (λ a i. e a (inr i)) (λ j. h (suc j)) k

-- the next timed item
pub next-to : (n : ℕ) (t : ℕ → ℕ) (o : Option TimedItem) → IfSome o (λ i. t n < i.tick) → Each (λ b. t b.variable ≤ b.tick) (next_bounds n o)
next-to n t None h = tt
next-to n t (Some i) h = (omega arith, tt)

pub next-from : (n g : ℕ) (t : ℕ → ℕ) (o : Option TimedItem) → IfSome o (λ i. 0 < i.tick) → t g ≤ t n → Each (λ b. t b.variable ≤ b.tick) (next_bounds n o) → IfSome o (λ i. t g < i.tick)
next-from n g t None some le h = tt
next-from n g t (Some i) some le h = omega (arith, h.0)

pub next-some : (s : ℕ) (o : Option TimedItem) → IfSome o (λ i. s < i.tick) → IfSome o (λ i. 0 < i.tick)
next-some s None h = tt
next-some s (Some i) h = omega arith

pub next-link : (a b : ℕ) (o : Option TimedItem) → a ≡ b → IfSome o (λ i. b < i.tick) → IfSome o (λ i. a < i.tick)
next-link a b None e h = tt
next-link a b (Some i) e h = omega arith

-- a running act has a place among the running ones
pub in_open : (a : Act) (xs : List Act) → a.closes ≡ None → IsIn a xs → IsIn a (open_acts xs)
in_open a [] e i = absurd i
in_open a (x ∷ xs) e i = at x.closes refl (λ j. in_open a xs e j) i
  where
    at : (o : Option ℕ) → x.closes ≡ o → (IsIn a xs → IsIn a (open_acts xs)) → (x ≡ a) ⊎ IsIn a xs → IsIn a (cond (not (is_some o)) (x ∷ open_acts xs) (open_acts xs))
    at None f ih (inl s) = inl s
    at None f ih (inr j) = inr (ih j)
    at (Some h) f ih (inl s) = let k : Some h ≡ None = sym f ∙ ap (λ (z : Act). z.closes) s ∙ e in absurd cc
    at (Some h) f ih (inr j) = ih j

place_below : (a : Act) (xs : List Act) → IsIn a xs → place a.action xs < length xs
place_below a [] i = absurd i
place_below a (x ∷ xs) i = at (eqb x.action a.action) refl (place_below a xs) i
  where
    at : (b : Bool) → eqb x.action a.action ≡ b → (IsIn a xs → place a.action xs < length xs) → (x ≡ a) ⊎ IsIn a xs → cond b 0 (suc (place a.action xs)) < suc (length xs)
    at true f ih j = omega arith
    at false f ih (inl s) = absurd (eqb-false x.action a.action f (ap (λ (z : Act). z.action) s))
    at false f ih (inr j) = omega (arith, ih j)

pub open-place : (a : Act) (xs : List Act) → a.closes ≡ None → IsIn a xs → place a.action (open_acts xs) < length (open_acts xs)
open-place a xs e i = place_below a (open_acts xs) (in_open a xs e i)
