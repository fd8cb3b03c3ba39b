-- Timed items come in the order of their ticks, one at a tick.
use Rattle.std.proofs.Common.{◌≡◌, refl, sym, ap, ◌∙◌, ℕ, zero, suc, ◌+◌, ◌<◌, ◌==◌, Bool, true, false, ◌&&◌, cond, List, [], ◌∷◌, length, arith, nat_lt, nat_le, slice_get}
use Rattle.std.specs.List.{AllByRecursion as Each, list_all, filter}
use Rattle.std.proofs.lemmas.Bool.{and_parts, false≢true, eqb-true, ltb-true, lt-ltb, le-ltb, cond-true, cond-false}
use Rattle.std.proofs.lemmas.Bool.Decides.{nat_tests}
use Rattle.tp_spec.specs.declared.problem.Problem.{Problem}
use Rattle.tp_spec.specs.declared.problem.TimedItem.{TimedItem}
use Rattle.tp_spec.specs.Lists.{each_next, some_and}
use Rattle.tp_spec.specs.WellFormed.{IsWellFormed, is_timed}
use Rattle.tp_laws.proofs.EarlyLists.{Rising, each-map}
use Rattle.tp_laws.proofs.WordOfLists.{filter-split, next-rises}

abbrev pub sooner : TimedItem → TimedItem → Bool
sooner i j = nat_lt i.tick j.tick

pub timed-rises : (p : Problem) → IsWellFormed p → Rising sooner p.timed
timed-rises p formed = next-rises sooner p.timed
    (λ x y z h k. lt-ltb x.tick z.tick (omega (arith, ltb-true x.tick y.tick h, ltb-true y.tick z.tick k)))
    (and_parts (nat_le (length p.timed) 256 && list_all (is_timed (length p.facts)) p.timed) (each_next sooner p.timed) formed.timing).1

-- how many timed items stand before a tick
abbrev pub timed_before : Problem → ℕ → ℕ
timed_before p t = length (filter (λ i. nat_lt i.tick t) p.timed)

pub timed_before-start : (p : Problem) → timed_before p 0 ≡ 0
timed_before-start p = none p.timed where
  none : (xs : List TimedItem) → length (filter (λ i. nat_lt i.tick 0) xs) ≡ 0
  none [] = refl
  none (x ∷ xs) = ap length (cond-false (nat_lt x.tick 0) (x ∷ filter (λ i. nat_lt i.tick 0) xs) (filter (λ i. nat_lt i.tick 0) xs) (le-ltb x.tick 0 (omega arith))) ∙ none xs

pub timed_before-step : (p : Problem) (t : ℕ) → timed_before p (suc t) ≡ timed_before p t + length (filter (λ i. i.tick == t) p.timed)
timed_before-step p t = sym (filter-split (λ i. nat_lt i.tick t) (λ i. i.tick == t) (λ i. nat_lt i.tick (suc t)) p.timed (λ i. split i.tick)) where
  split : (s : ℕ) → cond (nat_lt s t) 1 0 + cond (s == t) 1 0 ≡ cond (nat_lt s (suc t)) 1 0
  split s = grind (arith, nat_tests)

filter-past : {A : Type 0} (test : A → Bool) (xs : List A) → Each (λ x. test x ≡ false) xs → length (filter test xs) ≡ 0
filter-past test [] h = refl
filter-past test (x ∷ xs) h = ap length (cond-false (test x) (x ∷ filter test xs) (filter test xs) h.0) ∙ filter-past test xs h.1

-- what holds of each holds at a place
each-place : {A : Type 0} (P : A → Type 0) (test : A → Bool) (xs : List A) (k : ℕ) → Each P xs → some_and (slice_get xs k) test ≡ true → (x : A) × P x × (test x ≡ true)
each-place P test [] k h e = absurd (false≢true e)
each-place P test (x ∷ xs) zero h e = (x, h.0, e)
each-place P test (x ∷ xs) (suc k) h e = each-place P test xs k h.1 e

-- as many stand before a timed item's tick as come before it
place : (xs : List TimedItem) (k t : ℕ) → Rising sooner xs → some_and (slice_get xs k) (λ i. i.tick == t) ≡ true → length (filter (λ i. nat_lt i.tick t) xs) ≡ k
place [] k t r e = absurd (false≢true e)
place (x ∷ xs) zero t r e =
    let here : x.tick ≡ t = eqb-true x.tick t e in
    filter-past (λ i. nat_lt i.tick t) (x ∷ xs) (
      le-ltb x.tick t (omega (arith, here)),
      each-map (λ y. sooner x y ≡ true) (λ y. nat_lt y.tick t ≡ false) xs (λ y h. le-ltb y.tick t (omega (arith, here, ltb-true x.tick y.tick h))) r.0,
    )
place (x ∷ xs) (suc k) t r e =
    let y = each-place (λ y. sooner x y ≡ true) (λ i. i.tick == t) xs k r.0 e in
    let before : x.tick < t = omega (arith, ltb-true x.tick (y.0).tick y.1, eqb-true (y.0).tick t y.2) in
    ap length (cond-true (nat_lt x.tick t) (x ∷ filter (λ i. nat_lt i.tick t) xs) (filter (λ i. nat_lt i.tick t) xs) (lt-ltb x.tick t before)) ∙ ap suc (place xs k t r.1 e)

pub timed-place : (p : Problem) (k t : ℕ) → IsWellFormed p → some_and (slice_get p.timed k) (λ i. i.tick == t) ≡ true → timed_before p t ≡ k
timed-place p k t formed e = place p.timed k t (timed-rises p formed) e
