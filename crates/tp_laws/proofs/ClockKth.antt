-- The k-th act of an action beside its k-th commitment, by position in the word's list of acts.
use Rattle.std.proofs.Common.{◌≡◌, ℕ, zero, suc, ◌+◌, ◌≤◌, Bool, true, false, cond, eqb, List, [], ◌∷◌, Option, Some, None, refl, sym, subst, arith, add-zero}
use Rattle.std.specs.Prelude.{IfSome, slice_get}
use Rattle.std.proofs.lemmas.Bool.{eqb-true, eq-eqb}
use Rattle.tp_spec.specs.declared.plan.Timed.{Timed}
use Rattle.tp_spec.specs.Words.{Act, acts_of}
use Rattle.tp_spec.specs.declared.plan.Mark.{Mark}
use Rattle.tp_spec.specs.declared.problem.Problem.{Problem}
use Rattle.tp_spec.specs.Schedules.{Schedule, acts_by, commits_by}

-- an act that is no commitment starts at a clock or later
abbrev pub IsFrom : Schedule → ℕ → Act → Option Timed → Type 0
IsFrom x now a None = now ≤ x.tick a.opens
IsFrom x now a (Some c) = Unit {0}

-- so does each act of a word that is no commitment
abbrev pub AreFrom : Problem → List Timed → List Mark → Schedule → ℕ → Type 0
AreFrom p c w x now = (a k : ℕ) → IfSome (slice_get (acts_by a (acts_of p w)) k) (λ act. IsFrom x now act (slice_get (commits_by a c) k))

-- one act of an action more was seen
abbrev pub bumped : ℕ → (ℕ → ℕ) → ℕ → ℕ
bumped a seen b = cond (eqb a b) (suc (seen b)) (seen b)

-- each act and its commitment, where so many acts of each action came before
abbrev pub EachWith : (Act → Option Timed → Type 0) → List Timed → (ℕ → ℕ) → List Act → Type 0
EachWith P c seen [] = Unit {0}
EachWith P c seen (x ∷ xs) = P x (slice_get (commits_by x.action c) (seen x.action)) × EachWith P c (bumped x.action seen) xs

abbrev pub KthWith : (Act → Option Timed → Type 0) → List Timed → (ℕ → ℕ) → List Act → Type 0
KthWith P c seen xs = (a k : ℕ) → IfSome (slice_get (acts_by a xs) k) (λ act. P act (slice_get (commits_by a c) (seen a + k)))

head_by : (Q : Act → Type 0) (b : Bool) (x : Act) (ys : List Act) → b ≡ true → IfSome (slice_get (cond b (x ∷ ys) ys) 0) Q → Q x
head_by Q true x ys e h = h
head_by Q false x ys e h = absurd cc

tail_by : (R : Act → ℕ → Type 0) (b : Bool) (s k : ℕ) (x : Act) (ys : List Act) → ((j : ℕ) → IfSome (slice_get (cond b (x ∷ ys) ys) j) (λ act. R act (s + j))) → IfSome (slice_get ys k) (λ act. R act (cond b (suc s) s + k))
tail_by R true s k x ys h =
    let e : s + suc k ≡ suc s + k = omega arith in
    subst (λ (n : ℕ). IfSome (slice_get ys k) (λ act. R act n)) e (h (suc k))
tail_by R false s k x ys h = h k

pub kth-each : (P : Act → Option Timed → Type 0) (c : List Timed) (seen : ℕ → ℕ) (xs : List Act) → KthWith P c seen xs → EachWith P c seen xs
kth-each P c seen [] h = tt
kth-each P c seen (x ∷ xs) h = (
  subst (λ (n : ℕ). P x (slice_get (commits_by x.action c) n)) (add-zero (seen x.action))
      (head_by (λ act. P act (slice_get (commits_by x.action c) (seen x.action + 0))) (eqb x.action x.action) x (acts_by x.action xs) (eq-eqb x.action x.action refl) (h x.action 0)),
  kth-each P c (bumped x.action seen) xs (λ a k. tail_by (λ act n. P act (slice_get (commits_by a c) n)) (eqb x.action a) (seen a) k x (acts_by a xs) (h a)),
)

back_by : (R : Act → ℕ → Type 0) (b : Bool) (s : ℕ) (x : Act) (ys : List Act) → (b ≡ true → R x s) → ((k : ℕ) → IfSome (slice_get ys k) (λ act. R act (cond b (suc s) s + k))) → (k : ℕ) → IfSome (slice_get (cond b (x ∷ ys) ys) k) (λ act. R act (s + k))
back_by R true s x ys f h zero = subst (R x) (sym (add-zero s)) (f refl)
back_by R true s x ys f h (suc k) =
    let e : suc s + k ≡ s + suc k = omega arith in
    subst (λ (n : ℕ). IfSome (slice_get ys k) (λ act. R act n)) e (h k)
back_by R false s x ys f h k = h k

pub each-kth : (P : Act → Option Timed → Type 0) (c : List Timed) (seen : ℕ → ℕ) (xs : List Act) → EachWith P c seen xs → KthWith P c seen xs
each-kth P c seen [] h a k = tt
each-kth P c seen (x ∷ xs) h a k =
    back_by (λ act n. P act (slice_get (commits_by a c) n)) (eqb x.action a) (seen a) x (acts_by a xs)
    (λ e. subst (λ (u : ℕ). P x (slice_get (commits_by u c) (seen u))) (eqb-true x.action a e) h.0)
    (each-kth P c (bumped x.action seen) xs h.1 a) k
