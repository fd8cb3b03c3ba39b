-- The solutions of a word's network are the ticks that keep its bounds and rows.
use Rattle.std.proofs.Common.{◌≡◌, ℕ, zero, suc, ◌+◌, ◌-◌, ◌*◌, ◌<◌, ◌≤◌, ◌^◌, List, [], ◌∷◌, ◌++◌, length, get_or, replicate, Option, Some, None, refl, sym, ap, subst, arith, ◌∙◌}
use Rattle.std.proofs.Common.{Result, Ok, Err}
use Rattle.std.specs.Prelude.{slice_index, IfOk, IfSome, IfNone}
use Rattle.std.specs.List.{flat_map, AllByRecursion as Each}
use Rattle.std.proofs.Math.Nat.{mul_comm}
use Rattle.std.proofs.lemmas.Nat.{mul-le}
use Rattle.std.proofs.lemmas.List.{get_or-replicate, length-append, length-replicate}
use Rattle.std.proofs.lemmas.List.Elements.{All-from_recursion, recursion_from_All}
use Rattle.tick_network.specs.declared.net.Row.{Row}
use Rattle.tick_network.specs.Nets.{KeepsRow, IsSolutionOf, HasNoSolution, IsGreatest as IsGreatestOf, IsLeast as IsLeastOf, most_steps as most_looks}
use Rattle.tp_spec.specs.declared.plan.Limits.{Limits}
use Rattle.tp_spec.specs.declared.plan.Mark.{Mark}
use Rattle.tp_spec.specs.declared.plan.Timed.{Timed}
use Rattle.tp_spec.specs.Schedules.{Live, awaited}
use Rattle.tp_spec.specs.WellFormed.{Ground}
use Rattle.tp_spec.specs.Words.{Act, Sound, groups, acts_of, timed_of}
use Rattle.tp_laws.specs.Clocks.{HasActsInGroups}
use Rattle.tp_laws.proofs.ClockActs.{each-append, sound-acts}
use Rattle.word_rows.specs.declared.bound.Bound.{Bound}
use Rattle.word_rows.specs.Rows.{open_acts, end_of, rise_rows, late_rows, length_rows, clock_bounds, by_acts, word_exact, last_bounds, horizon_bounds, variables, KeepsWord}
use Rattle.word_rows.specs.Laws.{IsLast, IsFirst}
use Rattle.word_rows.proofs.Pieces.{each-front, each-back, horizon-to, horizon-from}
use Rattle.word_rows.proofs.Solutions.{none-is}
use Rattle.word_network.specs.declared.net.WordNet.{WordNet}
use Rattle.word_network.specs.Nets.{raised, lowered, IsNetOf}
use Rattle.word_network.specs.Parts.{ArePartsOf}
use Rattle.word_network.specs.Schedules.{most_steps}
use Rattle.word_network.specs.Solutions.{AreLastOf, AreFirstOf}
use Rattle.word_network.specs.declared.parts.WordParts.{WordParts}
use Rattle.word_network.specs.declared.solving.Solved.{Solved}
use Rattle.word_network.proofs.Relaxing.{IsAbove, IsBelow, length-raised, length-lowered, raise-to, raise-from, lower-to, lower-from}
use Rattle.word_network.proofs.WordNets.{IsOf, exact_of_word, clocks_of_word, lasts_of_word, last-same}

-- the lists of bounds, all on variables
record Bounds (p : Ground) (now : ℕ) (c : List Timed) (w : List Mark) : Type 0 where
  pub exact : Each (IsOf (variables p w)) (word_exact p c w)
  pub clock : Each (IsOf (variables p w)) (by_acts (clock_bounds now) c (λ a. 0) (acts_of p w))
  pub last : Each (IsOf (variables p w)) (last_bounds p c w (groups w))

bounds : (p : Ground) (now : ℕ) (c : List Timed) (w : List Mark) → HasActsInGroups p w → Bounds p now c w
bounds p now c w formed = record {
  exact = exact_of_word p c w formed;
  clock = clocks_of_word p now c w formed;
  last = subst (λ (bs : List Bound). Each (IsOf (variables p w)) bs) (last-same p c w (groups w)) (lasts_of_word p (groups w) (variables p w) (length (timed_of w)) (awaited (acts_of p w) c) (omega arith));
}

low-count : (p : Ground) (l : Limits) (now : ℕ) (c : List Timed) (w : List Mark) (n : WordNet) → IsNetOf p l now c w n → length n.net.low.items ≡ variables p w
low-count p l now c w n is = ap length is.low ∙ length-raised (raised (replicate (variables p w) 0) (word_exact p c w)) (by_acts (clock_bounds now) c (λ a. 0) (acts_of p w)) ∙ length-raised (replicate (variables p w) 0) (word_exact p c w) ∙ length-replicate (variables p w) 0

solution-keeps : (p : Ground) (l : Limits) (now : ℕ) (c : List Timed) (w : List Mark) (n : WordNet) (t : ℕ → ℕ) → IsNetOf p l now c w n → HasActsInGroups p w → l.horizon ≤ 2 ^ 40 → IsSolutionOf n.net t → KeepsWord p l now c w t
solution-keeps p l now c w n t is formed small s =
    let m : ℕ = variables p w in
    let exact : List Bound = word_exact p c w in
    let clock : List Bound = by_acts (clock_bounds now) c (λ a. 0) (acts_of p w) in
    let last : List Bound = last_bounds p c w (groups w) in
    let zeros : List ℕ = replicate m 0 in
    let tops : List ℕ = replicate m l.horizon in
    let b = bounds p now c w formed in
    let count : length n.net.low.items ≡ m = low-count p l now c w n is in
    let once : length (raised zeros exact) ≡ m = length-raised zeros exact ∙ length-replicate m 0 in
    let cut : length (lowered tops exact) ≡ m = length-lowered tops exact ∙ length-replicate m l.horizon in
    let below : IsBelow t m (lowered (lowered tops exact) last) = λ v h. subst (λ (xs : List ℕ). t v ≤ get_or xs v 0) is.high (s.below v (omega (arith, count))) in
    let above : IsAbove t m (raised (raised zeros exact) clock) = λ v h. subst (λ (xs : List ℕ). get_or xs v 0 ≤ t v) is.low (s.above v (omega (arith, count))) in
    let second = lower-from t m (lowered tops exact) last cut b.last below in
    let first = lower-from t m tops exact (length-replicate m l.horizon) b.exact second.below in
    let top : (v : ℕ) → v < m → t v ≤ l.horizon = λ v h. omega (arith, first.below v h, get_or-replicate m v l.horizon 0 h) in
    let within : (v : ℕ) → v < m → t v ≤ 2 ^ 40 = λ v h. omega (arith, top v h, small) in
    let later = raise-from t m (raised zeros exact) clock once b.clock within above in
    let sooner = raise-from t m zeros exact (length-replicate m 0) b.exact within later.above in
    record {
      lows = each-append (λ k. k.tick ≤ t k.variable) exact clock sooner.lows later.lows;
      highs = each-append (λ k. t k.variable ≤ k.tick) (horizon_bounds l.horizon m) (exact ++ last) (horizon-to t l.horizon m top)
          (each-append (λ k. t k.variable ≤ k.tick) exact last first.highs second.highs);
      rows = subst (λ (rs : List Row). Each (KeepsRow t) rs) is.rows (recursion_from_All (KeepsRow t) n.net.rows.items s.keeps);
    }

keeps-solution : (p : Ground) (l : Limits) (now : ℕ) (c : List Timed) (w : List Mark) (n : WordNet) (t : ℕ → ℕ) → IsNetOf p l now c w n → HasActsInGroups p w → KeepsWord p l now c w t → IsSolutionOf n.net t
keeps-solution p l now c w n t is formed k =
    let m : ℕ = variables p w in
    let exact : List Bound = word_exact p c w in
    let clock : List Bound = by_acts (clock_bounds now) c (λ a. 0) (acts_of p w) in
    let last : List Bound = last_bounds p c w (groups w) in
    let zeros : List ℕ = replicate m 0 in
    let tops : List ℕ = replicate m l.horizon in
    let b = bounds p now c w formed in
    let count : length n.net.low.items ≡ m = low-count p l now c w n is in
    let once : length (raised zeros exact) ≡ m = length-raised zeros exact ∙ length-replicate m 0 in
    let cut : length (lowered tops exact) ≡ m = length-lowered tops exact ∙ length-replicate m l.horizon in
    let within : (v : ℕ) → v < m → t v ≤ l.horizon = horizon-from t l.horizon m (each-front (λ k. t k.variable ≤ k.tick) (horizon_bounds l.horizon m) (exact ++ last) k.highs) in
    let back = each-back (λ k. t k.variable ≤ k.tick) (horizon_bounds l.horizon m) (exact ++ last) k.highs in
    let from : IsAbove t m zeros = λ v h. omega (arith, get_or-replicate {A = ℕ} m v 0 0 h) in
    let to : IsBelow t m tops = λ v h. omega (arith, get_or-replicate m v l.horizon 0 h, within v h) in
    let above : IsAbove t m (raised (raised zeros exact) clock) = raise-to t m (raised zeros exact) clock once b.clock
    (raise-to t m zeros exact (length-replicate m 0) b.exact from (each-front (λ k. k.tick ≤ t k.variable) exact clock k.lows))
    (each-back (λ k. k.tick ≤ t k.variable) exact clock k.lows) in
    let below : IsBelow t m (lowered (lowered tops exact) last) = lower-to t m (lowered tops exact) last cut b.last
    (lower-to t m tops exact (length-replicate m l.horizon) b.exact to (each-front (λ k. t k.variable ≤ k.tick) exact last back))
    (each-back (λ k. t k.variable ≤ k.tick) exact last back) in
    record {
      above = λ v h. subst (λ (xs : List ℕ). get_or xs v 0 ≤ t v) (sym is.low) (above v (omega (arith, count)));
      below = λ v h. subst (λ (xs : List ℕ). t v ≤ get_or xs v 0) (sym is.high) (below v (omega (arith, count)));
      keeps = All-from_recursion (KeepsRow t) n.net.rows.items (subst (λ (rs : List Row). Each (KeepsRow t) rs) (sym is.rows) k.rows);
    }

last-of : (p : Ground) (l : Limits) (now : ℕ) (c : List Timed) (w : List Mark) (n : WordNet) (ticks : List ℕ) → IsNetOf p l now c w n → Sound p w → l.horizon ≤ 2 ^ 40 → IsGreatestOf n.net ticks → IsLast p l now c w (slice_index ticks)
last-of p l now c w n ticks is sound small g =
    let formed = sound-acts p w sound in
    let count : length n.net.low.items ≡ variables p w = low-count p l now c w n is in
    record {
      keeps = solution-keeps p l now c w n (slice_index ticks) is formed small g.is;
      last = λ u k v b. g.last u (keeps-solution p l now c w n u is formed k) v (omega (arith, count));
    }

first-of : (p : Ground) (l : Limits) (now : ℕ) (c : List Timed) (w : List Mark) (n : WordNet) (ticks : List ℕ) → IsNetOf p l now c w n → Sound p w → l.horizon ≤ 2 ^ 40 → IsLeastOf n.net ticks → IsFirst p l now c w (slice_index ticks)
first-of p l now c w n ticks is sound small g =
    let formed = sound-acts p w sound in
    let count : length n.net.low.items ≡ variables p w = low-count p l now c w n is in
    record {
      keeps = solution-keeps p l now c w n (slice_index ticks) is formed small g.is;
      first = λ u k v b. g.first u (keeps-solution p l now c w n u is formed k) v (omega (arith, count));
    }

pub not-live : (p : Ground) (l : Limits) (now : ℕ) (c : List Timed) (w : List Mark) (n : WordNet) → IsNetOf p l now c w n → HasNoSolution n.net → Live p l now c w → ⊥
not-live p l now c w n is none live =
    let formed = sound-acts p w live.sound in
    none-is p l now c w formed (λ t k. none t (keeps-solution p l now c w n t is formed k)) live.schedule live.is

-- how many rows and variables there are
late_count : (n e : ℕ) (o : Option ℕ) → length (late_rows n e o) ≤ 1
late_count n e None = omega arith
late_count n e (Some g) = omega arith

rise_count : (m : ℕ) → length (rise_rows m) ≡ m
rise_count zero = refl
rise_count (suc m) = ap suc (rise_count m)

acts_count : (p : Ground) (n : ℕ) (running acts : List Act) → length (flat_map (length_rows p n running) acts) ≤ 3 * length acts
acts_count p n running [] = omega arith
acts_count p n running (a ∷ acts) =
    omega (arith, acts_count p n running acts, late_count n (end_of n running a) a.closes, length-append (length_rows p n running a) (flat_map (length_rows p n running) acts))

open_count : (acts : List Act) → length (open_acts acts) ≤ length acts
open_count [] = omega arith
open_count (a ∷ acts) = at a.closes (open_count acts)
  where
    at : (o : Option ℕ) → length (open_acts acts) ≤ length acts → length (open_acts (record { action = a.action; opens = a.opens; closes = o } ∷ acts)) ≤ suc (length acts)
    at None h = omega arith
    at (Some g) h = omega arith

pub steps-of : (p : Ground) (l : Limits) (now : ℕ) (c : List Timed) (w : List Mark) (n : WordNet) → IsNetOf p l now c w n → most_looks n.net ≤ most_steps p w
steps-of p l now c w n is =
    let g : ℕ = groups w in
    let s : ℕ = length (acts_of p w) in
    let count : length n.net.low.items ≡ variables p w = low-count p l now c w n is in
    let several : length n.net.low.items + 1 ≤ g + s + 1 = omega (arith, count, open_count (acts_of p w)) in
    let rows : length n.net.rows.items ≤ g + 3 * s = omega (arith, ap length is.rows, length-append (rise_rows (g - 1)) (flat_map (length_rows p g (open_acts (acts_of p w))) (acts_of p w)), rise_count (g - 1), acts_count p g (open_acts (acts_of p w)) (acts_of p w)) in
    let most : length n.net.rows.items * (length n.net.low.items + 1) ≤ (g + 3 * s) * (g + s + 1) = mul-le (length n.net.rows.items) (length n.net.low.items + 1) (g + 3 * s) (g + s + 1) rows several in
    subst (λ (k : ℕ). length n.net.rows.items * (length n.net.low.items + 1) ≤ k) (mul_comm (g + 3 * s) (g + s + 1)) most

-- what a call gives, carried over its answers
pub if-some : {V E : Type 0} (P Q : V → Type 0) (r : Result (Option V) E) → ((v : V) → P v → Q v) → IfOk r (λ f. IfSome f P) → IfOk r (λ f. IfSome f Q)
if-some P Q (Ok None) f h = tt
if-some P Q (Ok (Some v)) f h = f v h
if-some P Q (Err e) f h = tt

pub if-both : {V E : Type 0} (P Q R : V → Type 0) (r : Result (Option V) E) → ((v : V) → P v → Q v → R v) → IfOk r (λ f. IfSome f P) → IfOk r (λ f. IfSome f Q) → IfOk r (λ f. IfSome f R)
if-both P Q R (Ok None) f h k = tt
if-both P Q R (Ok (Some v)) f h k = f v h k
if-both P Q R (Err e) f h k = tt

pub if-none : {V E : Type 0} (A B : Type 0) (r : Result (Option V) E) → (A → B) → IfOk r (λ f. IfNone f A) → IfOk r (λ f. IfNone f B)
if-none A B (Ok None) f h = f h
if-none A B (Ok (Some v)) f h = tt
if-none A B (Err e) f h = tt

pub last-solved : (p : Ground) (l : Limits) (now : ℕ) (c : List Timed) (w : List Mark) (n : WordNet) (s : Solved) → IsNetOf p l now c w n → Sound p w → l.horizon ≤ 2 ^ 40 → IsGreatestOf n.net s.ticks.items → s.parts ≡ n.parts → AreLastOf p l now c w s
last-solved p l now c w n s is sound small g same = record {
  made = subst (λ (r : WordParts). ArePartsOf p w r) (sym same) is.made;
  room = is.room;
  count = g.count ∙ low-count p l now c w n is;
  is = last-of p l now c w n s.ticks.items is sound small g;
}

pub first-solved : (p : Ground) (l : Limits) (now : ℕ) (c : List Timed) (w : List Mark) (n : WordNet) (s : Solved) → IsNetOf p l now c w n → Sound p w → l.horizon ≤ 2 ^ 40 → IsLeastOf n.net s.ticks.items → s.parts ≡ n.parts → AreFirstOf p l now c w s
first-solved p l now c w n s is sound small g same = record {
  made = subst (λ (r : WordParts). ArePartsOf p w r) (sym same) is.made;
  room = is.room;
  count = g.count ∙ low-count p l now c w n is;
  is = first-of p l now c w n s.ticks.items is sound small g;
}
