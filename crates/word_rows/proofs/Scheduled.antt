-- From ticks that keep the bounds and rows to a schedule.
use Rattle.std.proofs.Common.{◌≡◌, ℕ, zero, suc, ◌+◌, ◌-◌, ◌<◌, ◌≤◌, true, List, ◌++◌, length, Option, Some, None, refl, sym, subst, arith, ◌∙◌}
use Rattle.std.specs.Prelude.{IfSome, slice_get, map}
use Rattle.std.specs.List.{flat_map, AllByRecursion as Each}
use Rattle.tick_network.specs.Nets.{KeepsRow}
use Rattle.tp_spec.specs.declared.plan.Limits.{Limits}
use Rattle.tp_spec.specs.declared.plan.Mark.{Mark}
use Rattle.tp_spec.specs.declared.plan.Timed.{Timed}
use Rattle.tp_spec.specs.declared.problem.Problem.{Problem}
use Rattle.tp_spec.specs.Lists.{IsIn}
use Rattle.tp_spec.specs.Courses.{in_range}
use Rattle.tp_spec.specs.Words.{Act, groups, acts_of, timed_of}
use Rattle.tp_spec.specs.Schedules.{Schedule, IsInLength, IsOnTime, finish, awaited}
use Rattle.tp_laws.proofs.ClockKth.{each-kth}
use Rattle.tp_laws.proofs.ClockLaws.{to_first, ticks_rise}
use Rattle.word_rows.specs.Rows.{open_acts, end_of, place, commit_bounds, clock_bounds, by_acts, timed_bounds, word_exact, last_bounds, next_bounds, horizon_bounds, variables, rise_rows, length_rows, KeepsWord}
use Rattle.tp_laws.specs.Clocks.{HasActsInGroups}
use Rattle.word_rows.specs.Laws.{OfWords, AreTicksOf, KeptAreSchedules}
use Rattle.word_rows.proofs.Pieces.{each-front, each-back, flat-each, map-each, rise-from, length-from, timed-from, horizon-from}
use Rattle.word_rows.proofs.Acts.{each-two, by-acts-from, times-link, next-from, next-link, open-place}

on_time_from : (n : ℕ) (running : List Act) (t : ℕ → ℕ) (x : Schedule) (now : ℕ) (a : Act) (o : Option Timed) → t a.opens ≡ x.tick a.opens → t (end_of n running a) ≡ finish x a → Each (λ b. t b.variable ≡ b.tick) (commit_bounds n running a o) → Each (λ b. b.tick ≤ t b.variable) (clock_bounds now a o) → IsOnTime x now a o
on_time_from n running t x now a None e f exact low = omega (arith, low.0)
on_time_from n running t x now a (Some c) e f exact low = (sym e ∙ exact.0, sym f ∙ exact.1.0)

-- the variable of an end is one of the word's
pub end_below : (n : ℕ) (acts : List Act) (a : Act) → IsIn a acts → IfSome a.closes (λ g. g < n) → end_of n (open_acts acts) a < n + length (open_acts acts)
end_below n acts a i h = at a.closes refl h
  where
    at : (o : Option ℕ) → a.closes ≡ o → IfSome o (λ g. g < n) → elim o as (λ _. ℕ) [ Some g ↦ g | None ↦ n + place a.action (open_acts acts) ] < n + length (open_acts acts)
    at None e h = omega (arith, open-place a acts e i)
    at (Some g) e h = omega arith

last_from : (p : Problem) (c : List Timed) (w : List Mark) (t : ℕ → ℕ) (n : ℕ) → Each (λ b. t b.variable ≤ b.tick) (last_bounds p c w n) → (0 < n → IfSome (slice_get p.timed (length (timed_of w))) (λ i. 0 < i.tick)) → (g : ℕ) → g < n → t g ≤ t (n - 1) → IfSome (slice_get p.timed (length (timed_of w))) (λ i. t g < i.tick) × ((d : Timed) → IsIn d (awaited (acts_of p w) c) → t g ≤ d.start)
last_from p c w t zero h some g b le = absurd (omega arith)
last_from p c w t (suc m) h some g b le =
    let same : suc m - 1 ≡ m = omega arith in
    let up : t g ≤ t m = subst (λ (k : ℕ). t g ≤ t k) same le in
    let next = each-front (λ b. t b.variable ≤ b.tick) (next_bounds m (slice_get p.timed (length (timed_of w)))) (map (λ d. record { variable = m; tick = d.start }) (awaited (acts_of p w) c)) h in
    let late = each-back (λ b. t b.variable ≤ b.tick) (next_bounds m (slice_get p.timed (length (timed_of w)))) (map (λ d. record { variable = m; tick = d.start }) (awaited (acts_of p w) c)) h in (
      next-from m g t (slice_get p.timed (length (timed_of w))) (some (omega arith)) up next,
      λ d i. omega (arith, map-each (λ b. t b.variable ≤ b.tick) (λ d. record { variable = m; tick = d.start }) (awaited (acts_of p w) c) late d i),
    )

-- what the bounds and rows say, one by one
pub record Says (p : Problem) (l : Limits) (c : List Timed) (w : List Mark) (t : ℕ → ℕ) : Type 0 where
  pub exact : Each (λ b. t b.variable ≡ b.tick) (word_exact p c w)
  pub last : Each (λ b. t b.variable ≤ b.tick) (last_bounds p c w (groups w))
  pub within : (v : ℕ) → v < variables p w → t v ≤ l.horizon
  pub rises : (g : ℕ) → g < groups w - 1 → t g < t (suc g)
  pub acts : (a : Act) → IsIn a (acts_of p w) → Each (KeepsRow t) (length_rows p (groups w) (open_acts (acts_of p w)) a)

says : (p : Problem) (l : Limits) (now : ℕ) (c : List Timed) (w : List Mark) (t : ℕ → ℕ) → KeepsWord p l now c w t → Says p l c w t
says p l now c w t keeps =
    let back = each-back (λ b. t b.variable ≤ b.tick) (horizon_bounds l.horizon (variables p w)) (word_exact p c w ++ last_bounds p c w (groups w)) keeps.highs in
    record {
      exact = each-two (λ b. b.tick ≤ t b.variable) (λ b. t b.variable ≤ b.tick) (λ b. t b.variable ≡ b.tick) (word_exact p c w) (λ b low high. omega arith)
          (each-front (λ b. b.tick ≤ t b.variable) (word_exact p c w) (by_acts (clock_bounds now) c (λ a. 0) (acts_of p w)) keeps.lows)
          (each-front (λ b. t b.variable ≤ b.tick) (word_exact p c w) (last_bounds p c w (groups w)) back);
      last = each-back (λ b. t b.variable ≤ b.tick) (word_exact p c w) (last_bounds p c w (groups w)) back;
      within = horizon-from t l.horizon (variables p w) (each-front (λ b. t b.variable ≤ b.tick) (horizon_bounds l.horizon (variables p w)) (word_exact p c w ++ last_bounds p c w (groups w)) keeps.highs);
      rises = rise-from t (groups w - 1) (each-front (KeepsRow t) (rise_rows (groups w - 1)) (flat_map (length_rows p (groups w) (open_acts (acts_of p w))) (acts_of p w)) keeps.rows);
      acts = flat-each (KeepsRow t) (length_rows p (groups w) (open_acts (acts_of p w))) (acts_of p w)
          (each-back (KeepsRow t) (rise_rows (groups w - 1)) (flat_map (length_rows p (groups w) (open_acts (acts_of p w))) (acts_of p w)) keeps.rows);
    }

act_from : (p : Problem) (l : Limits) (c : List Timed) (w : List Mark) (x : Schedule) (t : ℕ → ℕ) → HasActsInGroups p w → AreTicksOf p w x t → Says p l c w t → (a : Act) → IsIn a (acts_of p w) → IsInLength p l x a
act_from p l c w x t formed linked s a i =
    let opens : t a.opens ≡ x.tick a.opens = linked.ticks a.opens (formed.opens a i) in
    let ends : t (end_of (groups w) (open_acts (acts_of p w)) a) ≡ finish x a = linked.ends a i in
    let known = formed.known a i in
    let long = length-from p (groups w) (open_acts (acts_of p w)) a known.0 t known.1 (s.acts a i) in
    record {
      forward = omega (arith, long.forward);
      allowed = subst (λ (b : ℕ). in_range p a.action (finish x a - b) ≡ true) opens (subst (λ (e : ℕ). in_range p a.action (e - t a.opens) ≡ true) ends long.allowed);
      within = omega (arith, s.within (end_of (groups w) (open_acts (acts_of p w)) a) (end_below (groups w) (acts_of p w) a i (formed.closes a i)));
    }

pub kept-schedules : OfWords KeptAreSchedules
kept-schedules p l now c w formed x t linked keeps room =
    let s = says p l now c w t keeps in
    let bounds = commit_bounds (groups w) (open_acts (acts_of p w)) in
    let up : (g : ℕ) → g < groups w → t g ≤ t (groups w - 1) = λ g b. ticks_rise (groups w) t (λ h i. s.rises h (omega arith)) g (groups w - 1) (omega arith) (omega arith) in
    let lasts : (g : ℕ) → g < groups w → IfSome (slice_get p.timed (length (timed_of w))) (λ i. t g < i.tick) × ((d : Timed) → IsIn d (awaited (acts_of p w) c) → t g ≤ d.start) = λ g b. last_from p c w t (groups w) s.last room.next g b (up g b) in
    let clock = each-back (λ b. b.tick ≤ t b.variable) (word_exact p c w) (by_acts (clock_bounds now) c (λ a. 0) (acts_of p w)) keeps.lows in
    record {
      rises = λ g b. omega (arith, s.rises g (omega arith), linked.ticks g (omega arith), linked.ticks (suc g) b);
      within = λ g b. omega (arith, s.within g (omega arith), linked.ticks g b);
      timed = times-link x.tick t (timed_of w) (slice_get p.timed) (λ g i. sym (linked.ticks g (formed.timed g i)))
          (timed-from t (timed_of w) p.timed (each-front (λ b. t b.variable ≡ b.tick) (timed_bounds (timed_of w) p.timed) (by_acts bounds c (λ a. 0) (acts_of p w)) s.exact));
      before_next = λ g b. next-link (x.tick g) (t g) (slice_get p.timed (length (timed_of w))) (sym (linked.ticks g b)) (lasts g b).0;
      lengths = act_from p l c w x t formed linked s;
      open_late = λ a g i e b.
          let known = formed.known a i in
          omega (arith, (length-from p (groups w) (open_acts (acts_of p w)) a known.0 t known.1 (s.acts a i)).late e, up g b, linked.ticks g b, linked.ends a i);
      on_time = to_first (IsOnTime x now) c (acts_of p w) (each-kth (IsOnTime x now) c (λ a. 0) (acts_of p w)
          (by-acts-from (IsOnTime x now) (λ b. t b.variable ≡ b.tick) (λ b. b.tick ≤ t b.variable) bounds (clock_bounds now) c (λ a. 0) (acts_of p w)
          (λ a o i exact low. on_time_from (groups w) (open_acts (acts_of p w)) t x now a o (linked.ticks a.opens (formed.opens a i)) (linked.ends a i) exact low)
          (each-back (λ b. t b.variable ≡ b.tick) (timed_bounds (timed_of w) p.timed) (by_acts bounds c (λ a. 0) (acts_of p w)) s.exact)
          clock));
      late = λ d g i b. omega (arith, (lasts g b).1 d i, linked.ticks g b);
      few = room.few;
    }
