-- The first start that is no commitment, and the last clock by its tick.
use Rattle.std.proofs.Common.{◌≡◌, ◌⊎◌, inl, inr, ℕ, suc, ◌+◌, ◌<◌, ◌≤◌, Bool, true, false, List, [], ◌∷◌, ◌++◌, length, get_or, take, drop, map, Option, Some, None, refl, sym, ap, subst, arith, ◌∙◌}
use Rattle.std.specs.Prelude.{slice_index, nat_lt, ◌==◌, if◌then◌else◌}
use Rattle.std.specs.List.{count_by}
use Rattle.std.proofs.Math.Seq.{drop-cons}
use Rattle.std.proofs.lemmas.Bool.{lt-ltb, le-ltb}
use Rattle.std.proofs.lemmas.List.{take_more, map-append}
use Rattle.std.proofs.lemmas.List.Sums.{length-filter}
use Rattle.tp_spec.specs.declared.plan.Limits.{Limits}
use Rattle.tp_spec.specs.declared.plan.Mark.{Mark}
use Rattle.tp_spec.specs.declared.plan.Timed.{Timed}
use Rattle.tp_spec.specs.Lists.{IsIn}
use Rattle.tp_spec.specs.Machine.{candidate}
use Rattle.tp_spec.specs.Schedules.{Schedule, IsGreatest, acts_by}
use Rattle.tp_spec.specs.WellFormed.{Ground}
use Rattle.tp_spec.specs.Words.{Act, Sound, acts_of}
use Rattle.tp_laws.specs.Clocks.{IsDeadline, deadline_of, last_clock}
use Rattle.tp_laws.proofs.ClockActs.{sound-acts}
use Rattle.tp_laws.proofs.ClockLaws.{greatest-deadline}
use Rattle.word_network.specs.declared.parts.WordAct.{WordAct}
use Rattle.word_network.specs.declared.solving.Solved.{Solved}
use Rattle.word_network.specs.Deadlines.{opens_of, last_by}
use Rattle.word_network.specs.Parts.{act_of}
use Rattle.word_network.specs.Solutions.{AreLastOf}
use Rattle.word_network.proofs.ReadBack.{schedule_by, greatest-by}

candidate-step : (c : List Timed) (xs : List WordAct) (i : ℕ) (d : WordAct) → i < length xs → candidate (map act_of (take i xs)) c (map act_of (drop i xs)) ≡ (if nat_lt (count_by (λ (y : Act). y.action == (get_or xs i d).action) (map act_of (take i xs))) (count_by (λ (t : Timed). t.action == (get_or xs i d).action) c) then candidate (map act_of (take (i + 1) xs)) c (map act_of (drop (i + 1) xs)) else Some (act_of (get_or xs i d)))
candidate-step c xs i d b =
    let front : List Act = map act_of (take i xs) in
    let x : WordAct = get_or xs i d in
    let test : Bool = nat_lt (count_by (λ (y : Act). y.action == x.action) front) (count_by (λ (t : Timed). t.action == x.action) c) in
    let next : suc i ≡ i + 1 = omega arith in
    let split : drop i xs ≡ x ∷ drop (i + 1) xs = drop-cons xs i d b ∙ ap (λ (j : ℕ). x ∷ drop j xs) next in
    let longer : front ++ act_of x ∷ [] ≡ map act_of (take (i + 1) xs) = sym (ap (map act_of) (take_more xs i d b) ∙ map-append act_of (take i xs) (x ∷ [])) in
    ap (λ (zs : List WordAct). candidate front c (map act_of zs)) split
    ∙ ap (λ (zs : List Act). if test then candidate zs c (map act_of (drop (i + 1) xs)) else Some (act_of x)) longer

-- a start that is a commitment is passed ..
pub passes : (c : List Timed) (xs : List WordAct) (i : ℕ) (d : WordAct) (n k : ℕ) (o : Option ℕ) → i < length xs → n ≡ length (acts_by (get_or xs i d).action (map act_of (take i xs))) → k ≡ count_by (λ t. t.action == (get_or xs i d).action) c → n < k → opens_of (candidate (map act_of (take i xs)) c (map act_of (drop i xs))) ≡ o → opens_of (candidate (map act_of (take (i + 1) xs)) c (map act_of (drop (i + 1) xs))) ≡ o
passes c xs i d n k o b en ek less told =
    let x : WordAct = get_or xs i d in
    let front : List Act = map act_of (take i xs) in
    let counts : count_by (λ (y : Act). y.action == x.action) front < count_by (λ (t : Timed). t.action == x.action) c = omega (arith, less, en, ek, length-filter (λ (y : Act). y.action == x.action) front) in
    let yes : nat_lt (count_by (λ (y : Act). y.action == x.action) front) (count_by (λ (t : Timed). t.action == x.action) c) ≡ true = lt-ltb _ _ counts in
    sym (ap opens_of (candidate-step c xs i d b) ∙ ap (λ (t : Bool). opens_of (if t then candidate (map act_of (take (i + 1) xs)) c (map act_of (drop (i + 1) xs)) else Some (act_of x))) yes) ∙ told

-- .. and any other one is the first that is none
pub stops : (c : List Timed) (xs : List WordAct) (i : ℕ) (d : WordAct) (n k : ℕ) (o : Option ℕ) → i < length xs → n ≡ length (acts_by (get_or xs i d).action (map act_of (take i xs))) → k ≡ count_by (λ t. t.action == (get_or xs i d).action) c → k ≤ n → opens_of (candidate (map act_of (take i xs)) c (map act_of (drop i xs))) ≡ o → Some (get_or xs i d).opens ≡ o
stops c xs i d n k o b en ek more told =
    let x : WordAct = get_or xs i d in
    let front : List Act = map act_of (take i xs) in
    let counts : count_by (λ (t : Timed). t.action == x.action) c ≤ count_by (λ (y : Act). y.action == x.action) front = omega (arith, more, en, ek, length-filter (λ (y : Act). y.action == x.action) front) in
    let no : nat_lt (count_by (λ (y : Act). y.action == x.action) front) (count_by (λ (t : Timed). t.action == x.action) c) ≡ false = le-ltb _ _ counts in
    sym (ap opens_of (candidate-step c xs i d b) ∙ ap (λ (t : Bool). opens_of (if t then candidate (map act_of (take (i + 1) xs)) c (map act_of (drop (i + 1) xs)) else Some (act_of x))) no) ∙ told

-- the first start that is no commitment is one of the acts
candidate-in : (before : List Act) (c : List Timed) (xs : List Act) (x : Act) → candidate before c xs ≡ Some x → IsIn x xs
candidate-in before c [] x e = absurd cc
candidate-in before c (y ∷ ys) x e = at (candidate-in (before ++ y ∷ []) c ys x) (nat_lt (count_by (λ (z : Act). z.action == y.action) before) (count_by (λ (t : Timed). t.action == y.action) c)) e
  where
    at : (candidate (before ++ y ∷ []) c ys ≡ Some x → IsIn x ys) → (t : Bool) → (if t then candidate (before ++ y ∷ []) c ys else Some y) ≡ Some x → (y ≡ x) ⊎ IsIn x ys
    at further true f = inr (further f)
    at further false f = inl (ap (λ (o : Option Act). elim o [ None ↦ y | Some z ↦ z ]) f)

-- the last clock that is read off the greatest ticks at clock 0 is the word's deadline
pub deadline-is : (p : Ground) (l : Limits) (c : List Timed) (w : List Mark) (s : Solved) (xs : List ℕ) (acts : List WordAct) (r : ℕ) → xs ≡ s.ticks.items → acts ≡ s.parts.acts.items → Sound p w → AreLastOf p l 0 c w s → r ≡ last_by l.horizon (slice_index xs) (opens_of (candidate [] c (map act_of acts))) → IsDeadline p l c w r
deadline-is p l c w s xs acts r same kept sound h told =
    let t : ℕ → ℕ = slice_index s.ticks.items in
    let x : Schedule = schedule_by p w t in
    let best : IsGreatest p l 0 c w x = greatest-by p l 0 c w s sound h in
    let law = greatest-deadline p l c w x sound best in
    let is : r ≡ last_by l.horizon t (opens_of (candidate [] c (acts_of p w))) = told ∙ (λ i. last_by l.horizon (slice_index (same i)) (opens_of (candidate [] c (map act_of (kept i))))) ∙ ap (λ (ys : List Act). last_by l.horizon t (opens_of (candidate [] c ys))) h.made.acting in
    subst (IsDeadline p l c w) (sym (is ∙ at best (candidate [] c (acts_of p w)) refl)) law
  where
    at : {x : Schedule} → IsGreatest p l 0 c w x → (o : Option Act) → candidate [] c (acts_of p w) ≡ o → last_by l.horizon x.tick (opens_of o) ≡ deadline_of l (last_clock x o)
    at best None e = refl
    at {x} best (Some a) e =
        let inside : x.tick a.opens ≤ l.horizon = best.is.within a.opens ((sound-acts p w sound).opens a (candidate-in [] c (acts_of p w) a e)) in
        omega (arith, inside)
