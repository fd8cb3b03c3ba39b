-- From the solutions of a word's network to its schedules.
use Rattle.std.proofs.Common.{◌≡◌, ℕ, zero, suc, ◌+◌, ◌-◌, ◌<◌, ◌≤◌, Bool, true, false, cond, eqb, List, [], ◌∷◌, length, Option, Some, None, refl, sym, ap, arith, ◌∙◌, ◌⊎◌, inl, inr}
use Rattle.std.specs.Prelude.{IfSome, slice_get, nat_lt, not, is_some, if◌then◌else◌}
use Rattle.std.proofs.lemmas.Bool.{lt-ltb, le-ltb, eqb-true, eqb-false, cond-true, cond-false}
use Rattle.tp_spec.specs.declared.plan.Limits.{Limits}
use Rattle.tp_spec.specs.declared.plan.Mark.{Mark}
use Rattle.tp_spec.specs.declared.plan.Timed.{Timed}
use Rattle.tp_spec.specs.declared.problem.Problem.{Problem}
use Rattle.tp_spec.specs.Lists.{IsIn}
use Rattle.tp_spec.specs.Words.{Act, groups, acts_of}
use Rattle.tp_spec.specs.Schedules.{Schedule, IsSchedule, finish}
use Rattle.word_rows.specs.Rows.{open_acts, end_of, place, variables}
use Rattle.tp_laws.specs.Clocks.{HasActsInGroups}
use Rattle.word_rows.specs.Laws.{OfWords, AreTicksOf, GreatestIsGreatest, LeastIsLeast, NoneIsNone}
use Rattle.word_rows.proofs.Acts.{in_open, open-place}
use Rattle.word_rows.proofs.Kept.{schedules-kept}
use Rattle.word_rows.proofs.Scheduled.{kept-schedules}

abbrev pub action_at : List Act → ℕ → ℕ
action_at acts k = elim (slice_get acts k) [ None ↦ 0 | Some a ↦ a.action ]

-- the ticks of the variables that a schedule gives
abbrev pub ticks_of : Problem → List Mark → Schedule → ℕ → ℕ
ticks_of p w x v = if nat_lt v (groups w) then x.tick v else x.end (action_at (open_acts (acts_of p w)) (v - groups w))

found : (a : Act) (xs : List Act) → IsIn a xs → action_at xs (place a.action xs) ≡ a.action
found a [] i = absurd i
found a (x ∷ xs) i = at (eqb x.action a.action) refl (found a xs) i
  where
    at : (b : Bool) → eqb x.action a.action ≡ b → (IsIn a xs → action_at xs (place a.action xs) ≡ a.action) → (x ≡ a) ⊎ IsIn a xs → action_at (x ∷ xs) (cond b 0 (suc (place a.action xs))) ≡ a.action
    at true f ih j = eqb-true x.action a.action f
    at false f ih (inl s) = absurd (eqb-false x.action a.action f (ap (λ (z : Act). z.action) s))
    at false f ih (inr j) = ih j

tick-of : (p : Problem) (w : List Mark) (x : Schedule) (v : ℕ) → v < groups w → ticks_of p w x v ≡ x.tick v
tick-of p w x v b = cond-true (nat_lt v (groups w)) (x.tick v) (x.end (action_at (open_acts (acts_of p w)) (v - groups w))) (lt-ltb v (groups w) b)

end-of : (p : Problem) (w : List Mark) (x : Schedule) (k : ℕ) → ticks_of p w x (groups w + k) ≡ x.end (action_at (open_acts (acts_of p w)) k)
end-of p w x k =
    let back : groups w + k - groups w ≡ k = omega arith in
    cond-false (nat_lt (groups w + k) (groups w)) (x.tick (groups w + k)) (x.end (action_at (open_acts (acts_of p w)) (groups w + k - groups w))) (le-ltb (groups w + k) (groups w) (omega arith))
    ∙ ap (λ (j : ℕ). x.end (action_at (open_acts (acts_of p w)) j)) back

pub linked-from : (p : Problem) (w : List Mark) (x : Schedule) → HasActsInGroups p w → AreTicksOf p w x (ticks_of p w x)
linked-from p w x formed = record { ticks = tick-of p w x; ends = λ a i. by_end a i a.closes refl (formed.closes a i) }
  where
    by_end : (a : Act) → IsIn a (acts_of p w) → (o : Option ℕ) → a.closes ≡ o → IfSome o (λ g. g < groups w) → ticks_of p w x (elim o as (λ _. ℕ) [ Some g ↦ g | None ↦ groups w + place a.action (open_acts (acts_of p w)) ]) ≡ elim o as (λ _. ℕ) [ Some g ↦ x.tick g | None ↦ x.end a.action ]
    by_end a i (Some g) e b = tick-of p w x g b
    by_end a i None e b = end-of p w x (place a.action (open_acts (acts_of p w))) ∙ ap x.end (found a (open_acts (acts_of p w)) (in_open a (acts_of p w) e i))

-- a running act of a list, by its place among the running ones
pub record IsRunning (acts opened : List Act) (k : ℕ) : Type 0 where
  pub act : Act
  pub there : IsIn act acts
  pub runs : act.closes ≡ None
  pub named : action_at opened k ≡ act.action

running : (acts : List Act) (k : ℕ) → k < length (open_acts acts) → IsRunning acts (open_acts acts) k
running [] k b = absurd (omega arith)
running (x ∷ xs) k b = at (running xs) x.closes refl k b
  where
    at : ((j : ℕ) → j < length (open_acts xs) → IsRunning xs (open_acts xs) j) → (o : Option ℕ) → x.closes ≡ o → (j : ℕ) → j < length (cond (not (is_some o)) (x ∷ open_acts xs) (open_acts xs)) → IsRunning (x ∷ xs) (cond (not (is_some o)) (x ∷ open_acts xs) (open_acts xs)) j
    at ih None e zero b = record { act = x; there = inl refl; runs = e; named = refl }
    at ih None e (suc j) b = let r = ih j (omega arith) in record { act = r.act; there = inr r.there; runs = r.runs; named = r.named }
    at ih (Some g) e j b = let r = ih j b in record { act = r.act; there = inr r.there; runs = r.runs; named = r.named }

finish-running : (x : Schedule) (a : Act) → a.closes ≡ None → finish x a ≡ x.end a.action
finish-running x a e = ap (λ (o : Option ℕ). elim o as (λ _. ℕ) [ Some g ↦ x.tick g | None ↦ x.end a.action ]) e

pub within-horizon : (p : Problem) (l : Limits) (now : ℕ) (c : List Timed) (w : List Mark) (x : Schedule) → IsSchedule p l now c w x → (v : ℕ) → groups w ≤ v → v < variables p w → ticks_of p w x v ≤ l.horizon
within-horizon p l now c w x is v from below =
    let k : ℕ = v - groups w in
    let whole : groups w + k ≡ v = omega arith in
    let r = running (acts_of p w) k (omega arith) in
    let same : ticks_of p w x v ≡ finish x r.act = ap (ticks_of p w x) (sym whole) ∙ end-of p w x k ∙ ap x.end r.named ∙ sym (finish-running x r.act r.runs) in
    omega (arith, same, (is.lengths r.act r.there).within)

-- where a running act's end stands
end-ticks : (p : Problem) (w : List Mark) (x : Schedule) (t : ℕ → ℕ) (a : Act) → AreTicksOf p w x t → IsIn a (acts_of p w) → a.closes ≡ None → t (groups w + place a.action (open_acts (acts_of p w))) ≡ x.end a.action
end-ticks p w x t a linked i e =
    let at : end_of (groups w) (open_acts (acts_of p w)) a ≡ groups w + place a.action (open_acts (acts_of p w)) =
    ap (λ (o : Option ℕ). elim o as (λ _. ℕ) [ Some g ↦ g | None ↦ groups w + place a.action (open_acts (acts_of p w)) ]) e in
    ap t (sym at) ∙ linked.ends a i ∙ finish-running x a e

pub greatest-is : OfWords GreatestIsGreatest
greatest-is p l now c w formed x t linked room h = record {
  is = kept-schedules p l now c w formed x t linked h.keeps room;
  last = λ y s.
      let kept = schedules-kept p l now c w formed y (ticks_of p w y) (linked-from p w y formed) (within-horizon p l now c w y s) s in
      record {
        ticks = λ g b. omega (arith, h.last (ticks_of p w y) kept.0 g (omega arith), tick-of p w y g b, linked.ticks g b);
        ends = λ a i e.
            let k : ℕ = place a.action (open_acts (acts_of p w)) in
            let same : ticks_of p w y (groups w + k) ≡ y.end a.action = end-of p w y k ∙ ap y.end (found a (open_acts (acts_of p w)) (in_open a (acts_of p w) e i)) in
            let here : t (groups w + k) ≡ x.end a.action = end-ticks p w x t a linked i e in
            omega (arith, h.last (ticks_of p w y) kept.0 (groups w + k) (omega (arith, open-place a (acts_of p w) e i)), same, here);
      };
}

pub least-is : OfWords LeastIsLeast
least-is p l now c w formed x t linked room h = record {
  is = kept-schedules p l now c w formed x t linked h.keeps room;
  first = λ y s.
      let kept = schedules-kept p l now c w formed y (ticks_of p w y) (linked-from p w y formed) (within-horizon p l now c w y s) s in
      record {
        ticks = λ g b. omega (arith, h.first (ticks_of p w y) kept.0 g (omega arith), tick-of p w y g b, linked.ticks g b);
        ends = λ a i e.
            let k : ℕ = place a.action (open_acts (acts_of p w)) in
            let same : ticks_of p w y (groups w + k) ≡ y.end a.action = end-of p w y k ∙ ap y.end (found a (open_acts (acts_of p w)) (in_open a (acts_of p w) e i)) in
            let here : t (groups w + k) ≡ x.end a.action = end-ticks p w x t a linked i e in
            omega (arith, h.first (ticks_of p w y) kept.0 (groups w + k) (omega (arith, open-place a (acts_of p w) e i)), same, here);
      };
}

pub none-is : OfWords NoneIsNone
none-is p l now c w formed none x is = none (ticks_of p w x) (schedules-kept p l now c w formed x (ticks_of p w x) (linked-from p w x formed) (within-horizon p l now c w x is) is).0
