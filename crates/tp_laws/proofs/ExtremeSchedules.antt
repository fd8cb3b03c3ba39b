-- A live word has a greatest and a least schedule.
use Rattle.std.proofs.Common.{◌≡◌, refl, sym, ap, subst, ◌∙◌, ℕ, ◌+◌, ◌-◌, ◌<◌, ◌≤◌, max, min, nat_lt, Bool, true, false, cond, List, length, Some, None, arith}
use Rattle.std.proofs.lemmas.Bool.{ltb-true, lt-ltb}
use Rattle.std.proofs.lemmas.Option.{slice_get_within}
use Rattle.tp_spec.specs.declared.plan.Limits.{Limits}
use Rattle.tp_spec.specs.declared.plan.Mark.{Mark}
use Rattle.tp_spec.specs.declared.plan.Timed.{Timed}
use Rattle.tp_spec.specs.declared.problem.Problem.{Problem}
use Rattle.tp_spec.specs.Lists.{IsIn}
use Rattle.tp_spec.specs.Words.{Act, acts_of, groups}
use Rattle.tp_spec.specs.Schedules.{Schedule, IsSchedule}
use Rattle.tp_laws.specs.Clocks.{OfWord, HasActsInGroups, LiveHasGreatest, LiveHasLeast}
use Rattle.tp_laws.proofs.ClockActs.{sound-acts}
use Rattle.tp_laws.proofs.Extremes.{Extreme, sweep}
use Rattle.tp_laws.proofs.ScheduleMixes.{IsMix, mix-max, mix-min, mixed}
use Rattle.tp_laws.proofs.SchedulesTold.{told-schedule}

-- The vector of a schedule: the ticks of n groups, then the ends of the actions, all within the horizon.
abbrev parts_of : ℕ → ℕ → Schedule → ℕ → ℕ
parts_of n top x i = min (cond (nat_lt i n) (x.tick i) (x.end (i - n))) top

-- and the schedule of a vector
abbrev of_parts : ℕ → (ℕ → ℕ) → Schedule
of_parts n f = record { tick = f; end = λ a. f (n + a) }

tick-part : (n top g : ℕ) (x : Schedule) → g < n → x.tick g ≤ top → parts_of n top x g ≡ x.tick g
tick-part n top g x lt le = ap (λ b. min (cond b (x.tick g) (x.end (g - n))) top) (lt-ltb g n lt) ∙ within
  where
    within : min (x.tick g) top ≡ x.tick g
    within = omega (arith, le)

end-part : (n top a : ℕ) (x : Schedule) → x.end a ≤ top → parts_of n top x (n + a) ≡ x.end a
end-part n top a x le = by_test (nat_lt (n + a) n) refl
  where
    place : n + a - n ≡ a
    place = omega arith

    by_test : (b : Bool) → nat_lt (n + a) n ≡ b → min (cond b (x.tick (n + a)) (x.end (n + a - n))) top ≡ x.end a
    by_test true e = absurd (omega (arith, ltb-true (n + a) n e))
    by_test false e = ap (λ i. min (x.end i) top) place ∙ within
      where
        within : min (x.end a) top ≡ x.end a
        within = omega (arith, le)

module _ (p : Problem) (l : Limits) (now : ℕ) (c : List Timed) (w : List Mark) (inside : HasActsInGroups p w) where
  abbrev size : ℕ
  size = groups w + length p.actions

  known : (a : Act) → IsIn a (acts_of p w) → a.action < length p.actions
  known a i = let k = inside.known a i in slice_get_within p.actions a.action k.0 k.1

  abbrev IsGood : (ℕ → ℕ) → Type 0
  IsGood f = IsSchedule p l now c w (of_parts (groups w) f)

  module _ (op : ℕ → ℕ → ℕ) (mix : IsMix op) where
    -- a schedule that has the components of another
    like : (x z : Schedule) → IsSchedule p l now c w x → ((g : ℕ) → g < groups w → z.tick g ≡ x.tick g)
        → ((a : Act) → IsIn a (acts_of p w) → a.closes ≡ None → z.end a.action ≡ x.end a.action) → IsSchedule p l now c w z
    like x z s ticks ends =
        mixed op mix p l now c w inside x x z s s (λ g lt. ticks g lt ∙ sym (mix.same (x.tick g))) (λ a i e. ends a i e ∙ sym (mix.same (x.end a.action)))

    same : (f g : ℕ → ℕ) → ((i : ℕ) → i < size → g i ≡ f i) → IsGood f → IsGood g
    same f g agree s =
        like (of_parts (groups w) f) (of_parts (groups w) g) s (λ i lt. agree i (omega (arith, lt)))
        (λ a i e. let lt : a.action < length p.actions = known a i in agree (groups w + a.action) (omega (arith, lt)))

    join : (f g : ℕ → ℕ) → IsGood f → IsGood g → IsGood (λ i. op (f i) (g i))
    join f g s t =
        mixed op mix p l now c w inside (of_parts (groups w) f) (of_parts (groups w) g) (of_parts (groups w) (λ i. op (f i) (g i))) s t (λ g lt. refl) (λ a i e. refl)

    -- an end of a running act is within the horizon
    end-within : (x : Schedule) → IsSchedule p l now c w x → (a : Act) → IsIn a (acts_of p w) → a.closes ≡ None → x.end a.action ≤ l.horizon
    end-within x s a i e = subst (λ o. elim o [ Some g ↦ x.tick g | None ↦ x.end a.action ] ≤ l.horizon) e (s.lengths a i).within

    good-parts : (x : Schedule) → IsSchedule p l now c w x → IsGood (parts_of (groups w) l.horizon x)
    good-parts x s =
        like x (of_parts (groups w) (parts_of (groups w) l.horizon x)) s (λ g lt. tick-part (groups w) l.horizon g x lt (s.within g lt))
        (λ a i e. end-part (groups w) l.horizon a.action x (end-within x s a i e))

    module _ (R : ℕ → ℕ → Type 0) (self : (a : ℕ) → R a a) (left : (a b : ℕ) → R a (op a b)) (right : (a b : ℕ) → R b (op a b)) (follows : (a b c : ℕ) → R a b → R b c → R a c) where
      -- the schedule that is past each other one in every component
      pub record Furthest : Type 0 where
        pub vector : ℕ → ℕ
        pub good : IsGood vector
        pub ticks : (y : Schedule) → IsSchedule p l now c w y → (g : ℕ) → g < groups w → R (y.tick g) (vector g)
        pub ends : (y : Schedule) → IsSchedule p l now c w y → (a : Act) → IsIn a (acts_of p w) → a.closes ≡ None → R (y.end a.action) (vector (groups w + a.action))

      pub furthest : (x : Schedule) → IsSchedule p l now c w x → Furthest
      furthest x s = record {
        vector = e.vector;
        good = e.good;
        ticks = λ y t g lt. subst (λ n. R n (e.vector g)) (tick-part (groups w) l.horizon g y lt (t.within g lt)) (past y t g (omega (arith, lt)));
        ends = λ y t a i none.
            subst (λ n. R n (e.vector (groups w + a.action))) (end-part (groups w) l.horizon a.action y (end-within y t a i none))
            (past y t (groups w + a.action) (inside-size a i));
      }
        where
          start : ℕ → ℕ
          start = parts_of (groups w) l.horizon x

          e : Extreme size l.horizon op R self left right follows IsGood (λ f. told-schedule p l now c w (of_parts (groups w) f)) same join size start start
          e = sweep size l.horizon op R self left right follows IsGood (λ f. told-schedule p l now c w (of_parts (groups w) f)) same join size start start (good-parts x s)

          inside-size : (a : Act) → IsIn a (acts_of p w) → groups w + a.action < size
          inside-size a i = let lt : a.action < length p.actions = known a i in omega (arith, lt)

          past : (y : Schedule) → IsSchedule p l now c w y → (i : ℕ) → i < size → R (parts_of (groups w) l.horizon y i) (e.vector i)
          past y t = e.past (parts_of (groups w) l.horizon y) (record { fixed = λ i ge lt. absurd (omega (arith, ge, lt)); within = λ i lt. omega arith }) (good-parts y t)

pub live-has-greatest : OfWord LiveHasGreatest
live-has-greatest p l c w now live =
    let f = furthest p l now c w (sound-acts p w live.sound) max mix-max (λ a b. a ≤ b) (λ a. omega arith) (λ a b. omega arith) (λ a b. omega arith) (λ a b c h k. omega (arith, h, k)) live.schedule live.is in
    (of_parts (groups w) f.vector, record { is = f.good; last = λ y is. record { ticks = f.ticks y is; ends = f.ends y is } })

pub live-has-least : OfWord LiveHasLeast
live-has-least p l c w now live =
    let f = furthest p l now c w (sound-acts p w live.sound) min mix-min (λ a b. b ≤ a) (λ a. omega arith) (λ a b. omega arith) (λ a b. omega arith) (λ a b c h k. omega (arith, h, k)) live.schedule live.is in
    (of_parts (groups w) f.vector, record { is = f.good; first = λ y is. record { ticks = f.ticks y is; ends = f.ends y is } })
