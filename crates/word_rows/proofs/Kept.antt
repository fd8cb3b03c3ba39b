-- From a schedule to ticks that keep the bounds and rows.
use Rattle.std.proofs.Common.{◌≡◌, ℕ, zero, suc, ◌-◌, ◌<◌, ◌≤◌, true, List, ◌++◌, length, Option, Some, None, refl, sym, subst, arith, ◌∙◌, inl, inr}
use Rattle.std.specs.Prelude.{slice_get, map}
use Rattle.std.specs.List.{flat_map, AllByRecursion as Each}
use Rattle.std.proofs.lemmas.Bool.{cases_lt}
use Rattle.tick_network.specs.Nets.{KeepsRow}
use Rattle.tp_spec.specs.declared.plan.Limits.{Limits}
use Rattle.tp_spec.specs.declared.plan.Mark.{Mark}
use Rattle.tp_spec.specs.declared.plan.Timed.{Timed}
use Rattle.tp_spec.specs.declared.problem.Problem.{Problem}
use Rattle.tp_spec.specs.Lists.{IsIn}
use Rattle.tp_spec.specs.Courses.{in_range}
use Rattle.tp_spec.specs.Words.{Act, groups, acts_of, timed_of}
use Rattle.tp_spec.specs.Schedules.{Schedule, IsSchedule, IsInLength, IsOnTime, finish, awaited}
use Rattle.tp_laws.proofs.ClockKth.{kth-each}
use Rattle.tp_laws.proofs.ClockLaws.{from_first}
use Rattle.word_rows.specs.Rows.{open_acts, end_of, commit_bounds, clock_bounds, by_acts, timed_bounds, word_exact, last_bounds, next_bounds, horizon_bounds, variables, rise_rows, length_rows, word_rows}
use Rattle.tp_laws.specs.Clocks.{HasActsInGroups}
use Rattle.word_rows.specs.Laws.{OfWords, AreTicksOf, SchedulesAreKept}
use Rattle.tp_laws.proofs.ClockActs.{each-append}
use Rattle.tp_laws.proofs.EarlyLists.{each-map as each-weaken}
use Rattle.word_rows.proofs.Pieces.{each-flat, each-map, rise-to, length-to, timed-to, horizon-to}
use Rattle.word_rows.proofs.Acts.{by-acts-to, times-link, next-to, next-some, next-link}

commit_to : (n : ℕ) (running : List Act) (t : ℕ → ℕ) (x : Schedule) (now : ℕ) (a : Act) (o : Option Timed) → t a.opens ≡ x.tick a.opens → t (end_of n running a) ≡ finish x a → IsOnTime x now a o → Each (λ b. t b.variable ≡ b.tick) (commit_bounds n running a o)
commit_to n running t x now a None e f h = tt
commit_to n running t x now a (Some c) e f h = (e ∙ h.0, (f ∙ h.1, tt))

clock_to : (t : ℕ → ℕ) (x : Schedule) (now : ℕ) (a : Act) (o : Option Timed) → t a.opens ≡ x.tick a.opens → IsOnTime x now a o → Each (λ b. b.tick ≤ t b.variable) (clock_bounds now a o)
clock_to t x now a None e h = (omega arith, tt)
clock_to t x now a (Some c) e h = tt

last_to : (p : Problem) (l : Limits) (now : ℕ) (c : List Timed) (w : List Mark) (x : Schedule) (t : ℕ → ℕ) → AreTicksOf p w x t → IsSchedule p l now c w x → (n : ℕ) → groups w ≡ n → Each (λ b. t b.variable ≤ b.tick) (last_bounds p c w n)
last_to p l now c w x t linked is zero e = tt
last_to p l now c w x t linked is (suc g) e =
    let inside : g < groups w = omega arith in
    each-append (λ b. t b.variable ≤ b.tick) (next_bounds g (slice_get p.timed (length (timed_of w)))) (map (λ c. record { variable = g; tick = c.start }) (awaited (acts_of p w) c))
    (next-to g t (slice_get p.timed (length (timed_of w))) (next-link (t g) (x.tick g) (slice_get p.timed (length (timed_of w))) (linked.ticks g inside) (is.before_next g inside)))
    (each-map (λ b. t b.variable ≤ b.tick) (λ c. record { variable = g; tick = c.start }) (awaited (acts_of p w) c) (λ d i. omega (arith, is.late d g i inside, linked.ticks g inside)))

exact_to : (p : Problem) (l : Limits) (now : ℕ) (c : List Timed) (w : List Mark) (x : Schedule) (t : ℕ → ℕ) → HasActsInGroups p w → AreTicksOf p w x t → IsSchedule p l now c w x → Each (λ b. t b.variable ≡ b.tick) (word_exact p c w)
exact_to p l now c w x t formed linked is =
    let bounds = commit_bounds (groups w) (open_acts (acts_of p w)) in
    each-append (λ b. t b.variable ≡ b.tick) (timed_bounds (timed_of w) p.timed) (by_acts bounds c (λ a. 0) (acts_of p w))
    (timed-to t (timed_of w) p.timed (times-link t x.tick (timed_of w) (slice_get p.timed) (λ g i. linked.ticks g (formed.timed g i)) is.timed))
    (by-acts-to (IsOnTime x now) (λ b. t b.variable ≡ b.tick) bounds c (λ a. 0) (acts_of p w)
    (λ a o i h. commit_to (groups w) (open_acts (acts_of p w)) t x now a o (linked.ticks a.opens (formed.opens a i)) (linked.ends a i) h)
    (kth-each (IsOnTime x now) c (λ a. 0) (acts_of p w) (from_first (IsOnTime x now) c (acts_of p w) is.on_time)))

rows_to : (p : Problem) (l : Limits) (now : ℕ) (c : List Timed) (w : List Mark) (x : Schedule) (t : ℕ → ℕ) → HasActsInGroups p w → AreTicksOf p w x t → IsSchedule p l now c w x → Each (KeepsRow t) (word_rows p w)
rows_to p l now c w x t formed linked is =
    let rows = length_rows p (groups w) (open_acts (acts_of p w)) in
    each-append (KeepsRow t) (rise_rows (groups w - 1)) (flat_map rows (acts_of p w))
    (rise-to t (groups w - 1) (λ g b. omega (arith, is.rises g (omega arith), linked.ticks g (omega arith), linked.ticks (suc g) (omega arith))))
    (each-flat (KeepsRow t) rows (acts_of p w) (λ a i. act_to a i (is.lengths a i)))
  where
    act_to : (a : Act) → IsIn a (acts_of p w) → IsInLength p l x a → Each (KeepsRow t) (length_rows p (groups w) (open_acts (acts_of p w)) a)
    act_to a i len =
        let opens : t a.opens ≡ x.tick a.opens = linked.ticks a.opens (formed.opens a i) in
        let ends : t (end_of (groups w) (open_acts (acts_of p w)) a) ≡ finish x a = linked.ends a i in
        length-to p (groups w) (open_acts (acts_of p w)) a t (omega (arith, len.forward))
        (subst (λ (s : ℕ). in_range p a.action (t (end_of (groups w) (open_acts (acts_of p w)) a) - s) ≡ true) (sym opens) (subst (λ (e : ℕ). in_range p a.action (e - x.tick a.opens) ≡ true) (sym ends) len.allowed))
        (λ e. omega (arith, is.open_late a (groups w - 1) i e (omega (arith, formed.opens a i)), linked.ticks (groups w - 1) (omega (arith, formed.opens a i)), ends))

pub schedules-kept : OfWords SchedulesAreKept
schedules-kept p l now c w formed x t linked ends is =
    let exact = exact_to p l now c w x t formed linked is in
    let inside : (v : ℕ) → v < groups w → t v ≤ l.horizon = λ v b. omega (arith, linked.ticks v b, is.within v b) in (
      record {
        lows = each-append (λ b. b.tick ≤ t b.variable) (word_exact p c w) (by_acts (clock_bounds now) c (λ a. 0) (acts_of p w))
            (each-weaken (λ b. t b.variable ≡ b.tick) (λ b. b.tick ≤ t b.variable) (word_exact p c w) (λ b e. omega arith) exact)
            (by-acts-to (IsOnTime x now) (λ b. b.tick ≤ t b.variable) (clock_bounds now) c (λ a. 0) (acts_of p w)
            (λ a o i h. clock_to t x now a o (linked.ticks a.opens (formed.opens a i)) h)
            (kth-each (IsOnTime x now) c (λ a. 0) (acts_of p w) (from_first (IsOnTime x now) c (acts_of p w) is.on_time)));
        highs = each-append (λ b. t b.variable ≤ b.tick) (horizon_bounds l.horizon (variables p w)) (word_exact p c w ++ last_bounds p c w (groups w))
            (horizon-to t l.horizon (variables p w) (λ v b. elim (cases_lt v (groups w)) [ inl below ↦ inside v below | inr above ↦ ends v above b ]))
            (each-append (λ b. t b.variable ≤ b.tick) (word_exact p c w) (last_bounds p c w (groups w))
            (each-weaken (λ b. t b.variable ≡ b.tick) (λ b. t b.variable ≤ b.tick) (word_exact p c w) (λ b e. omega arith) exact)
            (last_to p l now c w x t linked is (groups w) refl));
        rows = rows_to p l now c w x t formed linked is;
      },
      record {
        few = is.few;
        next = λ some. next-some (x.tick 0) (slice_get p.timed (length (timed_of w))) (is.before_next 0 some);
      },
    )
