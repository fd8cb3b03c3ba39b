-- Words of instant actions: their acts end where they start, so that a schedule is a tick for each group.
use Rattle.std.proofs.Common.{◌≡◌, refl, sym, ap, subst, ◌∙◌, ℕ, suc, ◌+◌, ◌-◌, ◌<◌, ◌≤◌, true, false, cond, List, [], ◌∷◌, length, Option, Some, None, arith, IsTrue, IfSome, slice_get}
use Rattle.std.specs.List.{AllByRecursion as Each, list_all}
use Rattle.std.proofs.lemmas.Bool.{and_parts, false≢true, true≢false, not-true}
use Rattle.tp_spec.specs.declared.plan.Item.{Item}
use Rattle.tp_spec.specs.declared.plan.Item.TheVariants.{TimedAt, End, Start}
use Rattle.tp_spec.specs.declared.plan.Limits.{Limits}
use Rattle.tp_spec.specs.declared.plan.Mark.{Mark}
use Rattle.tp_spec.specs.declared.problem.Action.{Action}
use Rattle.tp_spec.specs.declared.problem.Kind.{Kind}
use Rattle.tp_spec.specs.declared.problem.Kind.TheVariants.{Instant, Durative}
use Rattle.tp_spec.specs.declared.problem.Problem.{Problem}
use Rattle.tp_spec.specs.Lists.{IsIn, some_and}
use Rattle.tp_spec.specs.Items.{is_durative, is_durative_kind}
use Rattle.tp_spec.specs.Courses.{in_range, allows_length}
use Rattle.tp_spec.specs.Words.{Act, Sound, groups, acts_from, acts_of, with_act, timed_of}
use Rattle.tp_spec.specs.Schedules.{Schedule, IsSchedule, IsInLength, IsOnTime, finish}
use Rattle.tp_laws.specs.Clocks.{IsDeadline}
use Rattle.tp_laws.specs.Instants.{is_instant_item, is_instant_mark, of_instants}
use Rattle.tp_laws.proofs.EarlyLists.{each-in, each-push}
use Rattle.tp_laws.proofs.ClockKth.{EachWith, bumped, kth-each, each-kth}
use Rattle.tp_laws.proofs.ClockLaws.{from_first, to_first}
use Rattle.tp_laws.proofs.ClockActs.{sound-acts}
use Rattle.tp_laws.proofs.WordOfLists.{in-each}

-- an act of an instant action
pub record IsBrief (p : Problem) (x : Act) : Type 0 where
  pub instant : is_durative p x.action ≡ false
  pub at_once : x.closes ≡ Some x.opens

brief-with : (p : Problem) (g : ℕ) (i : Item) (xs : List Act) → is_instant_item p i ≡ true → Each (IsBrief p) xs → Each (IsBrief p) (with_act p g i xs)
brief-with p g (TimedAt k) xs h e = e
brief-with p g (End a) xs h e = absurd (false≢true h)
brief-with p g (Start a) xs h e =
    let instant : is_durative p a ≡ false = not-true (is_durative p a) h in
    each-push (IsBrief p) xs (record { action = a; opens = g; closes = cond (is_durative p a) None (Some g) }) e
    (record { instant = instant; at_once = ap (λ b. cond b None (Some g)) instant })

brief-from : (p : Problem) (n : ℕ) (w : List Mark) (xs : List Act) → list_all (is_instant_mark p) w ≡ true → Each (IsBrief p) xs → Each (IsBrief p) (acts_from p n w xs)
brief-from p n [] xs h e = e
brief-from p n (m ∷ w) xs h e =
    let k : ℕ = cond m.fresh (n + 1) n in
    brief-from p k w (with_act p (k - 1) m.item xs) (and_parts (is_instant_mark p m) (list_all (is_instant_mark p) w) h).1
    (brief-with p (k - 1) m.item xs (and_parts (is_instant_mark p m) (list_all (is_instant_mark p) w) h).0 e)

ranged : (o : Option Action) (x : Action) → o ≡ Some x → some_and o (λ y. is_durative_kind y.kind) ≡ false → some_and o (λ y. allows_length y.kind 0) ≡ true
ranged None x e h = absurd cc
ranged (Some y) x e h = by_kind y.kind h
  where
    by_kind : (k : Kind) → is_durative_kind k ≡ false → allows_length k 0 ≡ true
    by_kind Instant h = refl
    by_kind (Durative least most) h = absurd (true≢false h)

-- Ticks of n groups with such acts and timed items at a clock, as a schedule has them, where each act ends where it
-- starts.
pub record Placed (p : Problem) (l : Limits) (now n : ℕ) (xs : List Act) (ts : List ℕ) (t : ℕ → ℕ) : Type 0 where
  pub rises : (g : ℕ) → suc g < n → t g < t (suc g)
  pub within : (g : ℕ) → g < n → t g ≤ l.horizon
  pub timed : (k : ℕ) → IfSome (slice_get ts k) (λ g. IfSome (slice_get p.timed k) (λ i. t g ≡ i.tick))
  pub before_next : (g : ℕ) → g < n → IfSome (slice_get p.timed (length ts)) (λ i. t g < i.tick)
  pub from : (x : Act) → IsIn x xs → now ≤ t x.opens
  pub few : length xs ≤ l.actions

-- some ticks of a word's groups
abbrev pub Places : Problem → Limits → ℕ → ℕ → List Act → List ℕ → Type 0
Places p l now n xs ts = (t : ℕ → ℕ) × Placed p l now n xs ts t

each-from : (x : Schedule) (now : ℕ) (xs : List Act) (seen : ℕ → ℕ) → EachWith (IsOnTime x now) [] seen xs → Each (λ a. now ≤ x.tick a.opens) xs
each-from x now [] seen h = tt
each-from x now (a ∷ xs) seen h = (h.0, each-from x now xs (bumped a.action seen) h.1)

from-each : (x : Schedule) (now : ℕ) (xs : List Act) (seen : ℕ → ℕ) → Each (λ a. now ≤ x.tick a.opens) xs → EachWith (IsOnTime x now) [] seen xs
from-each x now [] seen h = tt
from-each x now (a ∷ xs) seen h = (h.0, from-each x now xs (bumped a.action seen) h.1)

pub placed : (p : Problem) (l : Limits) (now : ℕ) (w : List Mark) (x : Schedule) → IsSchedule p l now [] w x → Placed p l now (groups w) (acts_of p w) (timed_of w) x.tick
placed p l now w x is = record {
  rises = is.rises;
  within = is.within;
  timed = is.timed;
  before_next = is.before_next;
  from = λ a i. each-in (λ a. now ≤ x.tick a.opens) (acts_of p w) a
      (each-from x now (acts_of p w) (λ a. 0) (kth-each (IsOnTime x now) [] (λ a. 0) (acts_of p w) (from_first (IsOnTime x now) [] (acts_of p w) is.on_time))) i;
  few = omega (arith, is.few);
}

module _ (p : Problem) (l : Limits) (now : ℕ) (w : List Mark) (t : ℕ → ℕ) (sound : Sound p w) (instants : of_instants p w ≡ true) (at : Placed p l now (groups w) (acts_of p w) (timed_of w) t) where
  brief : (a : Act) → IsIn a (acts_of p w) → IsBrief p a
  brief a i = each-in (IsBrief p) (acts_of p w) a (brief-from p 0 w [] instants tt) i

  in_length : (a : Act) → IsIn a (acts_of p w) → IsInLength p l (record { tick = t; end = λ a. 0 }) a
  in_length a i =
      let known = (sound-acts p w sound).known a i in
      let inside = (sound-acts p w sound).opens a i in
      let within = at.within a.opens inside in
      let ends : finish (record { tick = t; end = λ a. 0 }) a ≡ t a.opens = ap (λ o. elim o as (λ _. ℕ) [ Some g ↦ t g | None ↦ 0 ]) (brief a i).at_once in
      record {
        forward = omega (arith, ends);
        allowed = subst (λ (n : ℕ). IsTrue (in_range p a.action n)) (omega (arith, ends)) (ranged (slice_get p.actions a.action) known.0 known.1 (brief a i).instant);
        within = omega (arith, ends, within);
      }

  on_time : EachWith (IsOnTime (record { tick = t; end = λ a. 0 }) now) [] (λ a. 0) (acts_of p w)
  on_time = from-each (record { tick = t; end = λ a. 0 }) now (acts_of p w) (λ a. 0) (in-each (λ a. now ≤ t a.opens) (acts_of p w) at.from)

  never-open : (a : Act) → IsIn a (acts_of p w) → a.closes ≡ None → ⊥
  never-open a i e = some_none (sym (brief a i).at_once ∙ e)
    where
      some_none : Some a.opens ≡ None → ⊥
      some_none q = cc

  pub scheduled : IsSchedule p l now [] w (record { tick = t; end = λ a. 0 })
  scheduled = record {
    rises = at.rises;
    within = at.within;
    timed = at.timed;
    before_next = at.before_next;
    lengths = in_length;
    open_late = λ a g i e b. absurd (never-open a i e);
    on_time = to_first (IsOnTime (record { tick = t; end = λ a. 0 }) now) [] (acts_of p w) (each-kth (IsOnTime (record { tick = t; end = λ a. 0 }) now) [] (λ a. 0) (acts_of p w) on_time);
    late = λ c g i b. absurd i;
    few = omega (arith, at.few);
  }

-- a deadline by ticks of groups
pub deadline-from : (p : Problem) (l : Limits) (w : List Mark) (d : ℕ) → Sound p w → of_instants p w ≡ true → d ≤ l.horizon + 1
    → ((now : ℕ) (t : ℕ → ℕ) → now ≤ l.horizon + 1 → Placed p l now (groups w) (acts_of p w) (timed_of w) t → now ≤ d) → ((now : ℕ) → now ≤ d → Places p l now (groups w) (acts_of p w) (timed_of w)) → IsDeadline p l [] w d
deadline-from p l w d sound instants within before after = record {
  within = within;
  tells = λ now le. (
    λ live. before now live.schedule.tick le (placed p l now w live.schedule live.is),
    λ below. let places = after now below in record { sound = sound; schedule = record { tick = places.0; end = λ a. 0 }; is = scheduled p l now w places.0 sound instants places.1 },
  );
}

-- what the deadline gives at a clock
pub places-at : (p : Problem) (l : Limits) (w : List Mark) (d now : ℕ) → IsDeadline p l [] w d → now ≤ d → Places p l now (groups w) (acts_of p w) (timed_of w)
places-at p l w d now is le =
    let live = (is.tells now (omega (arith, is.within, le))).1 le in
    (live.schedule.tick, placed p l now w live.schedule live.is)

pub at-most : (p : Problem) (l : Limits) (w : List Mark) (d now : ℕ) (t : ℕ → ℕ) → Sound p w → of_instants p w ≡ true → IsDeadline p l [] w d → now ≤ l.horizon + 1 → Placed p l now (groups w) (acts_of p w) (timed_of w) t → now ≤ d
at-most p l w d now t sound instants is le at =
    (is.tells now le).0 (record { sound = sound; schedule = record { tick = t; end = λ a. 0 }; is = scheduled p l now w t sound instants at })

pub empty-live : (p : Problem) (l : Limits) → IsDeadline p l [] [] (l.horizon + 1)
empty-live p l = deadline-from p l [] (l.horizon + 1) (record { follows = tt }) refl (omega arith) (λ now t le at. le)
    (λ now le. (
      λ g. 0,
      record {
        rises = λ g b. absurd (omega (arith, b));
        within = λ g b. absurd (omega (arith, b));
        timed = λ k. tt;
        before_next = λ g b. absurd (omega (arith, b));
        from = λ x i. absurd i;
        few = omega arith;
      },
    ))
