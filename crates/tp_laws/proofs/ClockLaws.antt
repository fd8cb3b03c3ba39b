-- Schedules at later clocks, and the tick that tells at which clocks a word is live.
use Rattle.std.proofs.Common.{◌≡◌, ℕ, zero, suc, ◌+◌, ◌-◌, ◌<◌, ◌≤◌, Bool, true, false, cond, List, [], ◌∷◌, Option, Some, None, refl, subst, arith, ◌⊎◌, inl, inr}
use Rattle.std.specs.Prelude.{◌↔◌, IfSome, IsTrue, slice_get, ◌&&◌, if◌then◌else◌}
use Rattle.std.proofs.lemmas.Bool.{false≢true, cases_lt}
use Rattle.tp_spec.specs.declared.plan.Limits.{Limits}
use Rattle.tp_spec.specs.declared.plan.Mark.{Mark}
use Rattle.tp_spec.specs.declared.plan.Timed.{Timed}
use Rattle.tp_spec.specs.declared.problem.Problem.{Problem}
use Rattle.tp_spec.specs.Words.{Act, Sound, acts_of, groups, closes, at_start, may_join, past_group}
use Rattle.tp_spec.specs.Machine.{candidate}
use Rattle.tp_spec.specs.Schedules.{Schedule, IsSchedule, IsGreatest, IsOnTime, Live, acts_by, commits_by}
use Rattle.tp_laws.specs.Clocks.{OfWord, LaterIsEarlier, StaysGreatest, TellsLive, last_clock, GreatestTells, IsDeadline, deadline_of, GreatestGivesDeadline}
use Rattle.tp_laws.proofs.ClockKth.{IsFrom, AreFrom, KthWith, kth-each, each-kth}
use Rattle.tp_laws.proofs.ClockOpens.{acts-rise}
use Rattle.tp_laws.proofs.ClockCandidates.{counts_none, from-candidate, to-candidate, no-candidate, candidate-up}

on_time_both : (P Q : Act → Option Timed → Type 0) (o : Option Act) (c : Option Timed) → ((act : Act) → P act c → Q act c) → IfSome o (λ act. P act c) → IfSome o (λ act. Q act c)
on_time_both P Q None c f h = h
on_time_both P Q (Some act) c f h = f act h

earlier : (x : Schedule) (now later : ℕ) (c : Option Timed) (act : Act) → now ≤ later → IsOnTime x later act c → IsOnTime x now act c
earlier x now later None act le h = omega arith
earlier x now later (Some c) act le h = h

pub later-earlier : OfWord LaterIsEarlier
later-earlier p l c w now later x le is = record {
  rises = is.rises;
  within = is.within;
  timed = is.timed;
  before_next = is.before_next;
  lengths = is.lengths;
  open_late = is.open_late;
  on_time = λ a k. on_time_both (IsOnTime x later) (IsOnTime x now) (slice_get (acts_by a (acts_of p w)) k) (slice_get (commits_by a c) k) (λ act. earlier x now later (slice_get (commits_by a c) k) act le) (is.on_time a k);
  late = is.late;
  few = is.few;
}

meets_clock : (x : Schedule) (now later : ℕ) (c : Option Timed) (act : Act) → IsOnTime x now act c → IsFrom x later act c → IsOnTime x later act c
meets_clock x now later None act h f = f
meets_clock x now later (Some c) act h f = h

both_if : (P Q R : Act → Option Timed → Type 0) (o : Option Act) (c : Option Timed) → ((act : Act) → P act c → Q act c → R act c) → IfSome o (λ act. P act c) → IfSome o (λ act. Q act c) → IfSome o (λ act. R act c)
both_if P Q R None c f h k = h
both_if P Q R (Some act) c f h k = f act h k

pub at-later : (p : Problem) (l : Limits) (now later : ℕ) (c : List Timed) (w : List Mark) (x : Schedule) → IsSchedule p l now c w x → AreFrom p c w x later → IsSchedule p l later c w x
at-later p l now later c w x is from = record {
  rises = is.rises;
  within = is.within;
  timed = is.timed;
  before_next = is.before_next;
  lengths = is.lengths;
  open_late = is.open_late;
  on_time = λ a k. both_if (IsOnTime x now) (IsFrom x later) (IsOnTime x later) (slice_get (acts_by a (acts_of p w)) k) (slice_get (commits_by a c) k) (λ act. meets_clock x now later (slice_get (commits_by a c) k) act) (is.on_time a k) (from a k);
  late = is.late;
  few = is.few;
}

-- the k-th act of each action, from the first on
pub from_first : (P : Act → Option Timed → Type 0) (c : List Timed) (xs : List Act) → ((a k : ℕ) → IfSome (slice_get (acts_by a xs) k) (λ act. P act (slice_get (commits_by a c) k))) → KthWith P c (λ a. 0) xs
from_first P c xs h a k = let e : k ≡ 0 + k = omega arith in subst (λ (n : ℕ). IfSome (slice_get (acts_by a xs) k) (λ act. P act (slice_get (commits_by a c) n))) e (h a k)

pub to_first : (P : Act → Option Timed → Type 0) (c : List Timed) (xs : List Act) → KthWith P c (λ a. 0) xs → (a k : ℕ) → IfSome (slice_get (acts_by a xs) k) (λ act. P act (slice_get (commits_by a c) k))
to_first P c xs h a k = let e : 0 + k ≡ k = omega arith in subst (λ (n : ℕ). IfSome (slice_get (acts_by a xs) k) (λ act. P act (slice_get (commits_by a c) n))) e (h a k)

pub ticks_rise : (n : ℕ) (t : ℕ → ℕ) → ((g : ℕ) → suc g < n → t g < t (suc g)) → (i j : ℕ) → i ≤ j → j ≤ n - 1 → t i ≤ t j
ticks_rise n t rises i zero le top = subst (λ (k : ℕ). t i ≤ t k) (zero_below i le) (omega arith)
  where
    zero_below : (k : ℕ) → k ≤ 0 → k ≡ 0
    zero_below k h = omega arith
ticks_rise n t rises i (suc j) le top = by_cases (λ below. ticks_rise n t rises i j below (omega arith)) (cases_lt i (suc j))
  where
    by_cases : (i ≤ j → t i ≤ t j) → (i < suc j) ⊎ (suc j ≤ i) → t i ≤ t (suc j)
    by_cases ih (inl lt) = let one = rises j (omega arith) in omega (arith, ih (omega arith), rises j (omega arith))
    by_cases ih (inr ge) = let same : i ≡ suc j = omega arith in subst (λ (k : ℕ). t i ≤ t k) same (omega arith)

fresh_first : (p : Problem) (m : Mark) (w : List Mark) → Sound p (m ∷ w) → 0 < groups (m ∷ w)
fresh_first p m w s = by_fresh m.fresh s.follows.0
  where
    by_fresh : (b : Bool) → IsTrue (if b then closes p (at_start p) && may_join p (past_group p (at_start p)) m.item else false && may_join p (at_start p) m.item) → 0 < cond b 1 0 + groups w
    by_fresh true h = omega arith
    by_fresh false h = absurd (false≢true h)

some_group : (p : Problem) (c : List Timed) (w : List Mark) (next : Act) → Sound p w → candidate [] c (acts_of p w) ≡ Some next → 0 < groups w
some_group p c [] next s is = absurd cc
some_group p c (m ∷ w) next s is = fresh_first p m w s

-- where the first start that is no commitment stands at a clock or later, all such starts do
from-next : (p : Problem) (l : Limits) (now later : ℕ) (c : List Timed) (w : List Mark) (x : Schedule) (next : Act) → IsSchedule p l now c w x → candidate [] c (acts_of p w) ≡ Some next → later ≤ x.tick next.opens → AreFrom p c w x later
from-next p l now later c w x next s is before =
    to_first (IsFrom x later) c (acts_of p w) (each-kth (IsFrom x later) c (λ a. 0) (acts_of p w)
    (from-candidate x later (groups w - 1) c (λ a. 0) [] (acts_of p w) next (ticks_rise (groups w) x.tick s.rises) counts_none (acts-rise p w).order (acts-rise p w).up is before))

pub candidate-tells : (p : Problem) (l : Limits) (now later : ℕ) (c : List Timed) (w : List Mark) (x : Schedule) (next : Act) → now ≤ later → Sound p w → IsGreatest p l now c w x → candidate [] c (acts_of p w) ≡ Some next → Live p l later c w ↔ (later ≤ x.tick next.opens)
candidate-tells p l now later c w x next le sound g is = (
  λ live.
      let y = live.schedule in
      let after : later ≤ y.tick next.opens = to-candidate y later c (λ a. 0) [] (acts_of p w) next counts_none is (kth-each (IsOnTime y later) c (λ a. 0) (acts_of p w) (from_first (IsOnTime y later) c (acts_of p w) live.is.on_time)) in
      let inside : next.opens < groups w = omega (arith, candidate-up (groups w - 1) c [] (acts_of p w) next is (acts-rise p w).up, some_group p c w next sound is) in
      omega (arith, after, (g.last y (later-earlier p l c w now later y le live.is)).ticks next.opens inside),
  λ before. record {
    sound = sound;
    schedule = x;
    is = at-later p l now later c w x g.is (from-next p l now later c w x next g.is is before);
  },
)

-- without a first start that is no commitment each act is one
from-none : (p : Problem) (later : ℕ) (c : List Timed) (w : List Mark) (x : Schedule) → candidate [] c (acts_of p w) ≡ None → AreFrom p c w x later
from-none p later c w x is = to_first (IsFrom x later) c (acts_of p w) (each-kth (IsFrom x later) c (λ a. 0) (acts_of p w) (no-candidate x later c (λ a. 0) [] (acts_of p w) counts_none is))

pub none-left : (p : Problem) (l : Limits) (now later : ℕ) (c : List Timed) (w : List Mark) (x : Schedule) → now ≤ later → Sound p w → IsGreatest p l now c w x → candidate [] c (acts_of p w) ≡ None → Live p l later c w
none-left p l now later c w x le sound g is = record {
  sound = sound;
  schedule = x;
  is = at-later p l now later c w x g.is (from-none p later c w x is);
}

pub stays-greatest : OfWord StaysGreatest
stays-greatest p l c w now later x le g live = record {
  is = at-later p l now later c w x g.is (by_candidate (candidate [] c (acts_of p w)) refl);
  last = λ y is. g.last y (later-earlier p l c w now later y le is);
}
  where
    by_candidate : (o : Option Act) → candidate [] c (acts_of p w) ≡ o → AreFrom p c w x later
    by_candidate None e = from-none p later c w x e
    by_candidate (Some next) e = from-next p l now later c w x next g.is e ((candidate-tells p l now later c w x next le live.sound g e).0 live)

pub greatest-tells : OfWord GreatestTells
greatest-tells p l c w x sound g = by_candidate (candidate [] c (acts_of p w)) refl
  where
    by_candidate : (o : Option Act) → candidate [] c (acts_of p w) ≡ o → TellsLive p l c w (last_clock x o)
    by_candidate None e now = (λ live. tt, λ u. none-left p l 0 now c w x (omega arith) sound g e)
    by_candidate (Some next) e now = candidate-tells p l 0 now c w x next (omega arith) sound g e

-- what tells at every clock tells as far as the machine's clock goes
tells-deadline : (p : Problem) (l : Limits) (c : List Timed) (w : List Mark) (o : Option ℕ) → TellsLive p l c w o → IsDeadline p l c w (deadline_of l o)
tells-deadline p l c w None h = record {
  within = omega arith;
  tells = λ now le. (λ live. le, λ below. (h now).1 tt);
}
tells-deadline p l c w (Some t) h = record {
  within = omega arith;
  tells = λ now le. (
    λ live. let before : now ≤ t = (h now).0 live in omega (arith, le, before),
    λ below. (h now).1 (omega (arith, below)),
  );
}

pub greatest-deadline : OfWord GreatestGivesDeadline
greatest-deadline p l c w x sound g = tells-deadline p l c w (last_clock x (candidate [] c (acts_of p w))) (greatest-tells p l c w x sound g)
