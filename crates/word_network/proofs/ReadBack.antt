-- A schedule and a plan, read back from ticks of a word's variables.
use Rattle.std.proofs.Common.{◌≡◌, ℕ, zero, suc, ◌+◌, ◌-◌, ◌<◌, ◌≤◌, Bool, true, false, cond, eqb, List, [], ◌∷◌, length, get_or, take, map, Option, Some, None, refl, sym, ap, arith, ◌∙◌, ◌⊎◌, inl, inr}
use Rattle.std.specs.Prelude.{slice_index, IfSome}
use Rattle.std.proofs.lemmas.Bool.{eqb-false}
use Rattle.std.proofs.lemmas.List.{get_or-take, length-take-le}
use Rattle.tp_spec.specs.declared.plan.Limits.{Limits}
use Rattle.tp_spec.specs.declared.plan.Mark.{Mark}
use Rattle.tp_spec.specs.declared.plan.Plan.{Plan}
use Rattle.tp_spec.specs.declared.plan.Timed.{Timed}
use Rattle.tp_spec.specs.Lists.{IsIn}
use Rattle.tp_spec.specs.Schedules.{Schedule, finish, timed_act, last_tick, IsGreatest}
use Rattle.tp_spec.specs.WellFormed.{Ground}
use Rattle.tp_spec.specs.Words.{Act, Sound, groups, acts_of}
use Rattle.tp_laws.specs.Clocks.{HasActsInGroups}
use Rattle.tp_laws.proofs.ClockActs.{sound-acts}
use Rattle.word_rows.specs.Rows.{open_acts, place, end_of, variables}
use Rattle.word_rows.specs.Laws.{AreTicksOf}
use Rattle.word_rows.proofs.Acts.{in_open}
use Rattle.word_rows.proofs.Solutions.{greatest-is, least-is}
use Rattle.word_network.specs.declared.schedule.OpenEnd.{OpenEnd}
use Rattle.word_network.specs.declared.schedule.Latest.{Latest}
use Rattle.word_network.specs.declared.solving.Solved.{Solved}
use Rattle.word_network.specs.Parts.{act_of}
use Rattle.word_network.specs.Schedules.{end_in, ends_from, last_of, schedule_of, timed_by, IsLatest, IsEarliest}
use Rattle.word_network.specs.Solutions.{AreLastOf, AreFirstOf}

-- the end that is kept of a running act
ends_in : (a : Act) (xs : List Act) (t : ℕ → ℕ) (v : ℕ) → IsIn a xs → end_in a.action (ends_from xs t v) ≡ t (v + place a.action xs)
ends_in a [] t v i = absurd i
ends_in a (x ∷ xs) t v i = at (eqb x.action a.action) refl (ends_in a xs t (v + 1)) i
  where
    at : (b : Bool) → eqb x.action a.action ≡ b → (IsIn a xs → end_in a.action (ends_from xs t (v + 1)) ≡ t (v + 1 + place a.action xs)) → (x ≡ a) ⊎ IsIn a xs → cond b (t v) (end_in a.action (ends_from xs t (v + 1))) ≡ t (v + cond b 0 (suc (place a.action xs)))
    at true f ih j = let same : v ≡ v + 0 = omega arith in ap t same
    at false f ih (inl s) = absurd (eqb-false x.action a.action f (ap (λ (z : Act). z.action) s))
    at false f ih (inr j) = let same : v + 1 + place a.action xs ≡ v + suc (place a.action xs) = omega arith in ih j ∙ ap t same

ends_named : (xs : List Act) (t : ℕ → ℕ) (v : ℕ) → map (λ (e : OpenEnd). e.action) (ends_from xs t v) ≡ map (λ (a : Act). a.action) xs
ends_named [] t v = refl
ends_named (x ∷ xs) t v = ap (λ (ns : List ℕ). x.action ∷ ns) (ends_named xs t (v + 1))

-- the schedule that is kept has the ticks
kept_ticks : (p : Ground) (w : List Mark) (ticks : List ℕ) (t : Latest) → HasActsInGroups p w → t.groups ≡ take (groups w) ticks → t.ends ≡ ends_from (open_acts (acts_of p w)) (slice_index ticks) (groups w) → AreTicksOf p w (schedule_of t) (slice_index ticks)
kept_ticks p w ticks t formed eg ee = record {
  ticks = tick;
  ends = λ a i. by_end a i a.closes refl (formed.closes a i);
}
  where
    tick : (g : ℕ) → g < groups w → get_or ticks g 0 ≡ get_or t.groups g 0
    tick g b = sym (ap (λ (xs : List ℕ). get_or xs g 0) eg ∙ get_or-take (groups w) ticks g 0 b)

    by_end : (a : Act) → IsIn a (acts_of p w) → (o : Option ℕ) → a.closes ≡ o → IfSome o (λ g. g < groups w) → get_or ticks (elim o as (λ _. ℕ) [ Some g ↦ g | None ↦ groups w + place a.action (open_acts (acts_of p w)) ]) 0 ≡ elim o as (λ _. ℕ) [ Some g ↦ get_or t.groups g 0 | None ↦ end_in a.action t.ends ]
    by_end a i (Some g) e b = tick g b
    by_end a i None e b = sym (ap (λ (es : List OpenEnd). end_in a.action es) ee ∙ ends_in a (open_acts (acts_of p w)) (slice_index ticks) (groups w) (in_open a (acts_of p w) e i))

pub latest-is : (p : Ground) (l : Limits) (now : ℕ) (c : List Timed) (w : List Mark) (s : Solved) (xs : List ℕ) (t : Latest) → xs ≡ s.ticks.items → Sound p w → AreLastOf p l now c w s → t.groups ≡ take s.parts.groups xs → t.ends ≡ ends_from (open_acts (map act_of s.parts.acts.items)) (slice_index xs) s.parts.groups → IsLatest p l now c w t
latest-is p l now c w s xs t same sound h eg ee =
    let formed = sound-acts p w sound in
    let front : t.groups ≡ take (groups w) s.ticks.items = eg ∙ (λ i. take (h.made.counted i) (same i)) in
    let ends : t.ends ≡ ends_from (open_acts (acts_of p w)) (slice_index s.ticks.items) (groups w) = ee ∙ (λ i. ends_from (open_acts (h.made.acting i)) (slice_index (same i)) (h.made.counted i)) in
    record {
      counted = ap length front ∙ length-take-le (groups w) s.ticks.items (omega (arith, h.count));
      running = ap (map (λ (e : OpenEnd). e.action)) ends ∙ ends_named (open_acts (acts_of p w)) (slice_index s.ticks.items) (groups w);
      greatest = greatest-is p l now c w formed (schedule_of t) (slice_index s.ticks.items) (kept_ticks p w s.ticks.items t formed front ends) h.room h.is;
    }

pub room-of : (p : Ground) (l : Limits) (now : ℕ) (c : List Timed) (w : List Mark) (s : Solved) (xs : List ℕ) → xs ≡ s.ticks.items → AreLastOf p l now c w s → s.parts.groups + length (open_acts (map act_of s.parts.acts.items)) ≤ length xs
room-of p l now c w s xs same h =
    let size : s.parts.groups + length (open_acts (map act_of s.parts.acts.items)) ≡ variables p w = λ i. h.made.counted i + length (open_acts (h.made.acting i)) in
    omega (arith, size, h.count, ap length same)

-- the schedule that ticks are
abbrev pub schedule_by : Ground → List Mark → (ℕ → ℕ) → Schedule
schedule_by p w t = record { tick = t; end = λ a. t (groups w + place a (open_acts (acts_of p w))) }

by_ticks : (p : Ground) (w : List Mark) (t : ℕ → ℕ) (a : Act) → t (end_of (groups w) (open_acts (acts_of p w)) a) ≡ finish (schedule_by p w t) a
by_ticks p w t a = at a.closes
  where
    at : (o : Option ℕ) → t (elim o as (λ _. ℕ) [ Some g ↦ g | None ↦ groups w + place a.action (open_acts (acts_of p w)) ]) ≡ elim o as (λ _. ℕ) [ Some g ↦ t g | None ↦ t (groups w + place a.action (open_acts (acts_of p w))) ]
    at (Some g) = refl
    at None = refl

act_by : (p : Ground) (w : List Mark) (t : ℕ → ℕ) (a : Act) → timed_by (groups w) (open_acts (acts_of p w)) t a ≡ timed_act (schedule_by p w t) a
act_by p w t a = ap (λ (e : ℕ). record { action = a.action; start = t a.opens; length = e - t a.opens }) (by_ticks p w t a)

last_by : (x : Schedule) (n : ℕ) → last_of x.tick n ≡ last_tick x n
last_by x zero = refl
last_by x (suc g) = refl

pub earliest-is : (p : Ground) (l : Limits) (now : ℕ) (c : List Timed) (w : List Mark) (s : Solved) (xs : List ℕ) (r : Plan) → xs ≡ s.ticks.items → Sound p w → AreFirstOf p l now c w s → r.acts ≡ map (timed_by s.parts.groups (open_acts (map act_of s.parts.acts.items)) (slice_index xs)) (map act_of s.parts.acts.items) → r.end ≡ last_of (slice_index xs) s.parts.groups → IsEarliest p l now c w r
earliest-is p l now c w s xs r same sound h ea ee =
    let formed = sound-acts p w sound in
    let t : ℕ → ℕ = slice_index s.ticks.items in
    let x : Schedule = schedule_by p w t in
    let linked : AreTicksOf p w x t = record { ticks = λ g b. refl; ends = λ a i. by_ticks p w t a } in
    let acts : r.acts ≡ map (timed_act x) (acts_of p w) = ea ∙ (λ i. map (timed_by (h.made.counted i) (open_acts (h.made.acting i)) (slice_index (same i))) (h.made.acting i)) ∙ (λ i. map (λ a. act_by p w t a i) (acts_of p w)) in
    let end : r.end ≡ last_tick x (groups w) = ee ∙ (λ i. last_of (slice_index (same i)) (h.made.counted i)) ∙ last_by x (groups w) in
    (x, least-is p l now c w formed x t linked h.room h.is, λ i. record { acts = acts i; end = end i })

pub greatest-by : (p : Ground) (l : Limits) (now : ℕ) (c : List Timed) (w : List Mark) (s : Solved) → Sound p w → AreLastOf p l now c w s → IsGreatest p l now c w (schedule_by p w (slice_index s.ticks.items))
greatest-by p l now c w s sound h =
    let formed = sound-acts p w sound in
    let t : ℕ → ℕ = slice_index s.ticks.items in
    let x : Schedule = schedule_by p w t in
    let linked : AreTicksOf p w x t = record { ticks = λ g b. refl; ends = λ a i. by_ticks p w t a } in
    greatest-is p l now c w formed x t linked h.room h.is
