-- The k-th start of an action is its k-th commitment in every possible plan.
use Rattle.std.proofs.Common.{◌≡◌, ap, subst, ◌∙◌, ℕ, ◌+◌, ◌<◌, ◌≤◌, ◌==◌, cond, List, [], ◌∷◌, length, Some, inl, inr, arith}
use Rattle.std.specs.Prelude.{IfSome, slice_get}
use Rattle.std.proofs.lemmas.Option.{slice_get_within}
use Rattle.tp_spec.specs.declared.plan.Timed.{Timed}
use Rattle.tp_spec.specs.Schedules.{commits_by}
use Rattle.run_laws.specs.Commitments.{StartsAreCommitted}
use Rattle.tp_laws.specs.Plans.{OfFormed}
use Rattle.tp_laws.proofs.ClockActs.{there}
use Rattle.tp_laws.proofs.PlanOfCommits.{Kept, First, Owes, without, without-here, without-past, first-kept, rest-kept, on-time}
use Rattle.tp_laws.proofs.PlanOfSchedules.{kept}
use Rattle.run_laws.proofs.Candidates.{head-count}

-- an act taken out is one act of its action
taken : (c : Timed) (a : ℕ) (ys : List Timed) → First c ys → cond (c.action == a) 1 0 + length (commits_by a (without c.action ys)) ≤ length (commits_by a ys)
taken c a [] f = absurd f
taken c a (y ∷ ys) (inl e) =
    let same : y.action ≡ c.action = ap (λ z. z.action) e in
    let one : ◌≡◌ {A = ℕ} (cond (y.action == a) 1 0) (cond (c.action == a) 1 0) = ap (λ n. cond (n == a) 1 0) same in
    let rest : length (commits_by a (without c.action (y ∷ ys))) ≡ length (commits_by a ys) = ap (λ zs. length (commits_by a zs)) (without-here y ys c.action same) in
    omega (arith, head-count (y.action == a) y (commits_by a ys), one, rest)
taken c a (y ∷ ys) (inr f) =
    let rest : length (commits_by a (without c.action (y ∷ ys))) ≡ length (commits_by a (y ∷ without c.action ys)) = ap (λ zs. length (commits_by a zs)) (without-past y ys c.action f.0) in
    omega (arith, taken c a ys f.1, head-count (y.action == a) y (commits_by a ys), head-count (y.action == a) y (commits_by a (without c.action ys)), rest)

-- an action has no more commitments than acts
enough : (now : ℕ) (cs ys : List Timed) → Kept now cs ys → (a : ℕ) → length (commits_by a cs) ≤ length (commits_by a ys)
enough now [] ys k a = omega arith
enough now (c ∷ cs) ys k a =
    omega (arith, enough now cs (without c.action ys) (rest-kept now c cs ys k) a, taken c a ys (first-kept now c cs ys k), head-count (c.action == a) c (commits_by a cs))

pub starts-committed : OfFormed StartsAreCommitted
starts-committed p l formed now commits plan a k c turn possible here =
    let all : Kept now commits plan.acts = kept p l now commits plan formed turn possible in
    let few : k < length (commits_by a commits) = slice_get_within (commits_by a commits) k c here in
    let act : (y : Timed) × (slice_get (commits_by a plan.acts) k ≡ Some y) = there (commits_by a plan.acts) k (omega (arith, few, enough now commits plan.acts all a)) in
    let owes : Owes now act.0 (Some c) = subst (Owes now act.0) here (subst (λ o. IfSome o (λ y. Owes now y (slice_get (commits_by a commits) k))) act.1 (on-time now commits plan.acts all a k)) in
    act.1 ∙ ap Some owes
