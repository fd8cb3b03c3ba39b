-- Acts of a word come in order of the groups in which they start.
use Rattle.std.proofs.Common.{◌≡◌, ℕ, ◌+◌, ◌-◌, ◌≤◌, Bool, true, false, cond, List, [], ◌∷◌, ◌++◌, Option, Some, None, refl, arith}
use Rattle.std.specs.Prelude.{◌==◌, if◌then◌else◌}
use Rattle.tp_spec.specs.declared.plan.Item.{Item}
use Rattle.tp_spec.specs.declared.plan.Item.TheVariants.{TimedAt, End, Start}
use Rattle.tp_spec.specs.declared.plan.Mark.{Mark}
use Rattle.tp_spec.specs.declared.problem.Problem.{Problem}
use Rattle.tp_spec.specs.Words.{Act, groups, ended, with_act, acts_from, acts_of}

abbrev pub UpTo : ℕ → List Act → Type 0
UpTo g [] = Unit {0}
UpTo g (x ∷ xs) = (x.opens ≤ g) × UpTo g xs

abbrev pub AllFrom : ℕ → List Act → Type 0
AllFrom g [] = Unit {0}
AllFrom g (x ∷ xs) = (g ≤ x.opens) × AllFrom g xs

abbrev pub InOrder : List Act → Type 0
InOrder [] = Unit {0}
InOrder (x ∷ xs) = AllFrom x.opens xs × InOrder xs

up_more : (g h : ℕ) (xs : List Act) → g ≤ h → UpTo g xs → UpTo h xs
up_more g h [] le u = tt
up_more g h (x ∷ xs) le u = (omega (arith, u.0), up_more g h xs le u.1)

up_last : (g : ℕ) (xs : List Act) (y : Act) → y.opens ≤ g → UpTo g xs → UpTo g (xs ++ y ∷ [])
up_last g [] y le u = (le, tt)
up_last g (x ∷ xs) y le u = (u.0, up_last g xs y le u.1)

from_last : (g h : ℕ) (xs : List Act) (y : Act) → g ≤ h → y.opens ≡ h → AllFrom g xs → AllFrom g (xs ++ y ∷ [])
from_last g h [] y le e u = (omega arith, tt)
from_last g h (x ∷ xs) y le e u = (u.0, from_last g h xs y le e u.1)

order_last : (h : ℕ) (xs : List Act) (y : Act) → y.opens ≡ h → UpTo h xs → InOrder xs → InOrder (xs ++ y ∷ [])
order_last h [] y e u o = (tt, tt)
order_last h (x ∷ xs) y e u o = (from_last x.opens h xs y u.0 e o.0, order_last h xs y e u.1 o.1)

-- one act more, before an end was looked for
pub ended-cons : (P : List Act → Type 0) (a h : ℕ) (x : Act) (xs : List Act) → P (x ∷ ended a h xs) → P (record { action = x.action; opens = x.opens; closes = Some h } ∷ xs) → P (ended a h (x ∷ xs))
ended-cons P a h x xs keep close = by_end x.closes (x.action == a)
  where
    by_end : (o : Option ℕ) (b : Bool) → P (elim o as (λ _. List Act) [ Some k ↦ x ∷ ended a h xs | None ↦ if b then record { action = x.action; opens = x.opens; closes = Some h } ∷ xs else x ∷ ended a h xs ])
    by_end (Some k) b = keep
    by_end None true = close
    by_end None false = keep

-- an end leaves the groups in which acts start
from_ended : (g a h : ℕ) (xs : List Act) → AllFrom g xs → AllFrom g (ended a h xs)
from_ended g a h [] u = tt
from_ended g a h (x ∷ xs) u = ended-cons (AllFrom g) a h x xs (u.0, from_ended g a h xs u.1) u

order_ended : (a h : ℕ) (xs : List Act) → InOrder xs → InOrder (ended a h xs)
order_ended a h [] o = tt
order_ended a h (x ∷ xs) o = ended-cons InOrder a h x xs (from_ended x.opens a h xs o.0, order_ended a h xs o.1) o

up_ended : (g a h : ℕ) (xs : List Act) → UpTo g xs → UpTo g (ended a h xs)
up_ended g a h [] u = tt
up_ended g a h (x ∷ xs) u = ended-cons (UpTo g) a h x xs (u.0, up_ended g a h xs u.1) u

pub record Rises (g : ℕ) (xs : List Act) : Type 0 where
  pub order : InOrder xs
  pub up : UpTo g xs

with_item : (p : Problem) (g : ℕ) (i : Item) (xs : List Act) → Rises g xs → Rises g (with_act p g i xs)
with_item p g (TimedAt k) xs r = r
with_item p g (End a) xs r = record { order = order_ended a g xs r.order; up = up_ended g a g xs r.up }
with_item p g (Start a) xs r = record { order = order_last g xs _ refl r.up r.order; up = up_last g xs _ (omega arith) r.up }

rises_up : (g h : ℕ) (xs : List Act) → g ≤ h → Rises g xs → Rises h xs
rises_up g h xs le r = record { order = r.order; up = up_more g h xs le r.up }

rises_from : (p : Problem) (n : ℕ) (w : List Mark) (xs : List Act) → Rises (n - 1) xs → Rises (n + groups w - 1) (acts_from p n w xs)
rises_from p n [] xs r = rises_up (n - 1) (n + 0 - 1) xs (omega arith) r
rises_from p n (m ∷ w) xs r = by_fresh (λ k ys. rises_from p k w ys) m.fresh
  where
    by_fresh : ((k : ℕ) (ys : List Act) → Rises (k - 1) ys → Rises (k + groups w - 1) (acts_from p k w ys)) → (b : Bool) → Rises (n + (cond b 1 0 + groups w) - 1) (acts_from p (cond b (n + 1) n) w (with_act p (cond b (n + 1) n - 1) m.item xs))
    by_fresh ih true = rises_up (n + 1 + groups w - 1) (n + (1 + groups w) - 1) _ (omega arith) (ih (n + 1) _ (with_item p (n + 1 - 1) m.item xs (rises_up (n - 1) (n + 1 - 1) xs (omega arith) r)))
    by_fresh ih false = rises_up (n + groups w - 1) (n + (0 + groups w) - 1) _ (omega arith) (ih n _ (with_item p (n - 1) m.item xs r))

pub acts-rise : (p : Problem) (w : List Mark) → Rises (groups w - 1) (acts_of p w)
acts-rise p w = rises_up (0 + groups w - 1) (groups w - 1) (acts_of p w) (omega arith) (rises_from p 0 w [] (record { order = tt; up = tt }))
